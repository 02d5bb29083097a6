use Rattle.mc_box.specs.BoxSound.{box_state}
use Rattle.mc_box.proofs.Events.{media_wired}
use Rattle.mc_box.proofs.parts.BoxParts.change_media.Goals as goal

pub send_turn-requires-clause-wired : goal.send_turn-requires-clause-wired
send_turn-requires-clause-wired c = media_wired (box_state c.args.self.now) c.args.local c.args.media c.requires.wired
