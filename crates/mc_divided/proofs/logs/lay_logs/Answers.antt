use Rattle.std.proofs.Common.{◌≡◌, ℕ, List, [], length, map, ap, ap₂, sym, ◌∙◌, arith, rules}
use Rattle.std.proofs.lemmas.List.{length-map}
use Rattle.std.proofs.lemmas.List.FromFn.{length-map-range_with_len, length-range_with_len}
use Rattle.std.proofs.lemmas.Result.{IfOk-weaker}
use Rattle.std.specs.List.{range_with_len}
use Rattle.std.specs.declared.alloc.Global.{Global}
use Rattle.std.specs.declared.vec.Vec.{Vec}
use Rattle.mc_box.specs.Boxes.{no_box}
use Rattle.mc_part.proofs.Shares.{shares_are_boxes}
use Rattle.mc_part.specs.Divisions.{part_numbers}
use Rattle.mc_part.specs.DividedParts.{share_of, shares_of}
use Rattle.mc_model.specs.Worlds.{WorldState}
use Rattle.mc_divided.proofs.logs.lay_logs.Goals as goal

pub share-requires-clause-each : goal.share-requires-clause-each
share-requires-clause-each c =
    let len_is : c.len.result ≡ length c.args.division.now.assigned.items = search rules in
    let long = ap length c.in_ok-every.ensures ∙ length-range_with_len 0 c.len.result in
    let same = ap (λ (l : List ℕ). length l) c.deref.ensures.value in
    omega (arith, long, len_is, same)

pub empty_logs-requires-clause-each : goal.empty_logs-requires-clause-each
empty_logs-requires-clause-each c =
    let same = ap (λ (l : List ℕ). length l) c.deref-2.ensures.value in
    let long = sym (length-map c.in_ok-shares.shares.items (λ (v : Vec ℕ Global). v.items)) ∙ (ap length c.in_ok-shares.ensures
    ∙ length-map-range_with_len (share_of c.in_ok-every.every.items c.deref.result.now) 0 c.args.division.now.count) in
    omega (arith, same, long, c.in_ok-clocks.ensures.count)

numbers_are : (assigned : List ℕ) (count : ℕ) → shares_of (range_with_len 0 (length assigned)) assigned count ≡ part_numbers assigned count
numbers_are assigned count =
    let world : WorldState = record { boxes = map (λ (part : ℕ). no_box) assigned; channels = []; lanes = [] } in
    (shares_are_boxes world assigned count (sym (length-map assigned (λ (part : ℕ). no_box)))).1

pub returns-clause-numbers : goal.returns-clause-numbers
returns-clause-numbers c =
    let len_is : c.len.result ≡ length c.args.division.now.assigned.items = search rules in
    let shares = c.in_ok-shares.ensures
    ∙ (ap₂ (λ (l m : List ℕ). shares_of l m c.args.division.now.count) (c.in_ok-every.ensures ∙ ap (range_with_len 0) len_is) c.deref.ensures.value ∙ numbers_are c.args.division.now.assigned.items c.args.division.now.count) in
    IfOk-weaker c.empty_logs.result _ _ (λ logs is. is ∙ shares) c.empty_logs.ensures.numbers
