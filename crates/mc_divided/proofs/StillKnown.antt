-- What is known of a part whose boxes and counts of Shifts stay as they are.
use Rattle.std.proofs.Common.{◌≡◌, ◌&&◌, ℕ, nat_lt, IsTrue, List, length, get_or, ap, sym, ◌∙◌, subst, Vec, Global}
use Rattle.mc_box.specs.Boxes.{BoxState, box_owes, is_slot, no_box}
use Rattle.mc_part.specs.Phases.{IsKnown}
use Rattle.mc_part.specs.declared.knowing.Known.{Known}
use Rattle.mc_part.specs.declared.part_run.PartRun.{PartRun}

pub still_known : (a b : PartRun) → b.part.engine.boxes ≡ a.part.engine.boxes → b.part.shifts ≡ a.part.shifts
    → b.known ≡ a.known → IsKnown a → IsKnown b
still_known a b boxes shifts same known = record {
  owes = λ on who local.
      ap (λ (l : List BoxState). nat_lt who (length l) && is_slot (get_or l who no_box) local
      && box_owes (get_or l who no_box) local) boxes
      ∙ known.owes (subst (λ (k : Known). IsTrue k.unowed) same on) who local;
  shifts = λ on who.
      ap (λ (v : Vec ℕ Global). get_or v.items who 0) shifts
      ∙ known.shifts (subst (λ (k : Known). IsTrue k.unshifted) same on) who;
}
