use Rattle.std.proofs.Common.{refl}
use Rattle.mc_lines.proofs.CodecLists.{can_list_these}
use Rattle.mc_lines.proofs.codec_words.listed.Goals as goal

pub loop-word-init : goal.loop-word-init
loop-word-init c = record {
  listed = rw c.none-list.ensures.empty refl;
  possible = rw c.none-list.ensures.empty (can_list_these c.args.names.now c.args.words c.requires.declared c.requires.different c.requires.few);
}
