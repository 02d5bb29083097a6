use Rattle.mc_box.specs.BoxSound.{box_state}
use Rattle.mc_box.proofs.Loaded.{wired_by, wired_each}
use Rattle.mc_box.proofs.parts.BoxParts.is_wired.Goals as goal

pub returns-then-not-are_wired : goal.returns-then-not-are_wired
returns-then-not-are_wired c = λ wired. c.if-not-are_wired.ensures (wired_each (box_state c.args.self.now) wired)

pub returns : goal.returns
returns c =
    wired_by (box_state c.args.self.now) c.fits_program.result c.if-not-fits_numbers.ensures c.if-not-are_wired.ensures
    c.fits_program.ensures
