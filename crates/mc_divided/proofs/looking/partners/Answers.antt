use Rattle.std.proofs.Common.{◌≡◌, ℕ, List, Option, length, get_or, length-append, None, [], ◌∷◌, ap, ◌∙◌, arith}
use Rattle.mc_model.specs.Paths.{partner_of}
use Rattle.mc_model.specs.Worlds.{slot_count}
use Rattle.mc_divided.specs.Networks.{channels_of, world_in}
use Rattle.mc_divided.proofs.Tables.{entry_more}
use Rattle.mc_divided.proofs.looking.partners.Goals as goal

pub loop-slot-preserved : goal.loop-slot-preserved
loop-slot-preserved c = record {
  long = omega (
    arith,
    ap (λ (l : List (Option ℕ)). length l) c.in_ok-push.ensures.items,
    length-append c.loop-slot.partners.items (c.partner.result ∷ []),
    c.loop-slot.invariant.long,
  );
  each = λ s below.
      ap (λ (l : List (Option ℕ)). get_or l s None) c.in_ok-push.ensures.items
      ∙ entry_more c.loop-slot.partners.items c.partner.result c.loop-slot.slot s
      (partner_of (world_in c.args.network.now)) c.loop-slot.invariant.long below (c.loop-slot.invariant.each s)
      c.partner.ensures;
}

pub returns : goal.returns
returns c =
    let all = c.slot_count-slot-end.ensures.count (channels_of c.args.network.now)
    (length c.args.network.now.assigned.items) c.requires.frame in
    let done : c.loop-slot.slot ≡ slot_count (world_in c.args.network.now) =
    omega (arith, all, c.loop-slot-test.false, c.loop-slot.auto.slot-end) in
    record {
      long = omega (arith, c.loop-slot.invariant.long, done);
      each = λ s inside. c.loop-slot.invariant.each s (omega (arith, inside, done));
    }
