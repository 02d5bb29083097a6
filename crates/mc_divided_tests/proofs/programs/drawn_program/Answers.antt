use Rattle.std.proofs.Common.{◌≡◌, ◌<◌, ◌≤◌, ◌+◌, ℕ, All, length, sym, subst, arith}
use Rattle.mc_rule.specs.Programs.{IsState}
use Rattle.mc_divided_tests.proofs.programs.drawn_program.Goals as goal

-- so many states are some, and few
some_few : (n count : ℕ) → n ≡ 1 + count → count < 4 → (0 < n) × (n ≤ 64)
some_few n count is few = (omega arith, omega arith)

pub new-requires : goal.new-requires
new-requires c =
    let both = some_few (length c.in_ok-states.states.items) c.below-count.result c.in_ok-states.ensures.long (c.below-count.ensures (omega arith)) in
    record {
      some = both.0;
      few = both.1;
      slots = c.args.slots;
      each = subst (λ (n : ℕ). All (IsState c.args.slots n) c.in_ok-states.states.items) (sym c.in_ok-states.ensures.long) c.in_ok-states.ensures.each;
    }
