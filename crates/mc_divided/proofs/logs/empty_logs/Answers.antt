use Rattle.std.proofs.Common.{◌≡◌, ◌+◌, ℕ, List, [], drop, get_or, length, refl, ap, sym, ◌∙◌, arith, rules}
use Rattle.std.proofs.lemmas.List.{length-map}
use Rattle.std.specs.declared.alloc.Global.{Global}
use Rattle.std.specs.declared.vec.Vec.{Vec}
use Rattle.mc_part.proofs.Shares.{next_thing}
use Rattle.mc_part.specs.DividedParts.{inner_lists}
use Rattle.mc_divided.proofs.LogsLaid.{all_there, none_more, table_more, whole_table}
use Rattle.mc_divided.proofs.PartsLaid.{list_read}
use Rattle.mc_merge.specs.declared.log.PartLog.{PartLog}
use Rattle.mc_divided.proofs.logs.empty_logs.Goals as goal

pub loop-numbers-init : goal.loop-numbers-init
loop-numbers-init c = record {
  rest = c.into_iter-numbers-iterator.ensures.into_iter_gives.0 ∙ ap (λ (l : List PartLog). drop (length l) c.args.shares.items) (sym c.new-logs.ensures.items);
  few = let none = ap (λ (l : List PartLog). length l) c.new-logs.ensures.items in omega (arith, none);
  numbers = rw c.new-logs.ensures.items refl;
  clocks = rw c.new-logs.ensures.items refl;
  none = λ part. rw c.new-logs.ensures.items refl;
}

pub loop-numbers-preserved : goal.loop-numbers-preserved
loop-numbers-preserved c =
    let next = next_thing c.args.shares.items c.loop-numbers.numbers-iterator.rest.items c.next.new.self.rest.items (length c.loop-numbers.logs.items) c.in-Some.numbers c.loop-numbers.invariant.rest c.in-Some.ensures.steps.0 in
    let more : length c.push.new.self.items ≡ length c.loop-numbers.logs.items + 1 = search rules in
    let n_is : c.len.result ≡ length c.loop-numbers.logs.items = search rules in
    let long = length-map c.args.shares.items (λ (v : Vec ℕ Global). v.items) in
    record {
      rest = next.2 ∙ ap (λ (m : ℕ). drop m c.args.shares.items) (sym more);
      few = omega (arith, more, next.0);
      numbers = table_more (λ (log : PartLog). log.numbers.items) c.loop-numbers.logs.items c.push.new.self.items _ (inner_lists c.args.shares.items) [] (omega (arith, long, next.0))
          (list_read c.args.shares.items (length c.loop-numbers.logs.items) c.in-Some.numbers next.0 next.1) c.loop-numbers.invariant.numbers c.in_ok-push.ensures.items;
      clocks = table_more (λ (log : PartLog). log.clock) c.loop-numbers.logs.items c.push.new.self.items _ c.args.clocks.now 0 (omega (arith, c.requires.each, next.0))
          (ap (λ (n : ℕ). get_or c.args.clocks.now n 0) n_is) c.loop-numbers.invariant.clocks c.in_ok-push.ensures.items;
      none = none_more c.loop-numbers.logs.items c.push.new.self.items _ c.loop-numbers.invariant.none (search rules) c.in_ok-push.ensures.items;
    }

pub returns : goal.returns
returns c =
    let none : length c.loop-numbers.numbers-iterator.rest.items ≡ 0 = search rules in
    let all = all_there c.args.shares.items c.loop-numbers.numbers-iterator.rest.items c.loop-numbers.logs.items c.loop-numbers.invariant.rest none c.loop-numbers.invariant.few in
    let long = length-map c.args.shares.items (λ (v : Vec ℕ Global). v.items) in
    record {
      numbers = whole_table (λ (log : PartLog). log.numbers.items) c.loop-numbers.logs.items (inner_lists c.args.shares.items) c.loop-numbers.invariant.numbers (omega (arith, long, all));
      none = c.loop-numbers.invariant.none;
      clocks = whole_table (λ (log : PartLog). log.clock) c.loop-numbers.logs.items c.args.clocks.now c.loop-numbers.invariant.clocks (omega (arith, c.requires.each, all));
    }
