-- Turns up to a moment, and those after it, as one turn more comes; and where runs go on.
use Rattle.std.proofs.Common.{◌≡◌, ◌≤◌, ◌+◌, ◌++◌, ◌⊎◌, inl, inr, cond, ℕ, Bool, List, [], ◌∷◌, Option, Some, length, take, drop, count_by, length-append, refl, ap, sym, ◌∙◌, arith}
use Rattle.std.specs.Option.{option_and_then, unwrap_or}
use Rattle.std.proofs.lemmas.Bool.{cases_lt}
use Rattle.std.proofs.lemmas.List.{take-append-le, drop-append-le, take_all, drop_all, take-append-drop}
use Rattle.std.proofs.lemmas.List.Sums.{sum_by_push}
use Rattle.mc_box.proofs.Options.{then_some}
use Rattle.mc_box.specs.declared.event.Turn.{Turn}
use Rattle.mc_model.specs.Steps.{after, run, step}
use Rattle.mc_model.specs.Worlds.{WorldState}
use Rattle.mc_seq.proofs.Runs.{run-append}

-- ---- one turn more

pub longer : (turns : List Turn) (turn : Turn) → length (turns ++ turn ∷ []) ≡ length turns + 1
longer turns turn = length-append turns (turn ∷ [])

pub take_before : (turns : List Turn) (turn : Turn) (n : ℕ) → n ≤ length turns → take n (turns ++ turn ∷ []) ≡ take n turns
take_before turns turn n within = take-append-le n turns (turn ∷ []) within

pub drop_before : (turns : List Turn) (turn : Turn) (n : ℕ) → n ≤ length turns → drop n (turns ++ turn ∷ []) ≡ drop n turns ++ turn ∷ []
drop_before turns turn n within = drop-append-le n turns (turn ∷ []) within

-- a moment of the longer list is one of the shorter list, or its end
pub before_or_end : (turns : List Turn) (turn : Turn) (n : ℕ) → n ≤ length (turns ++ turn ∷ []) → (n ≤ length turns) ⊎ (n ≡ length (turns ++ turn ∷ []))
before_or_end turns turn n within = elim (cases_lt (length turns) n) [
  | inl past ↦ inr (omega (arith, past, within, longer turns turn))
  | inr before ↦ inl (omega (arith, before))
]

pub take_end : (turns : List Turn) (n : ℕ) → n ≡ length turns → take n turns ≡ turns
take_end turns n is = take_all n turns (omega (arith, is))

pub drop_end : (turns : List Turn) (n : ℕ) → n ≡ length turns → drop n turns ≡ []
drop_end turns n is = drop_all n turns (omega (arith, is))

-- how many pass a test
pub count_more : (p : Turn → Bool) (turns : List Turn) (turn : Turn) → count_by p (turns ++ turn ∷ []) ≡ count_by p turns + cond (p turn) 1 0
count_more p turns turn = sum_by_push (λ (t : Turn). cond (p t) 1 0) turns turn

-- ---- runs

-- a run comes by the world after its first part
pub run_parts : (one two : List Turn) (world last : WorldState) → run world (one ++ two) ≡ Some last → (between : WorldState) × (run world one ≡ Some between) × (run between two ≡ Some last)
run_parts [] two world last goes = (world, refl, goes)
run_parts (turn ∷ one) two world last goes =
    let first = then_some (λ (next : WorldState). run next (one ++ two)) (step world turn) last goes in
    let rest = run_parts one two first.0 last first.2 in
    (rest.0, ap (option_and_then (λ (next : WorldState). run next one)) first.1 ∙ rest.1, rest.2)

pub after_is : (world last : WorldState) (turns : List Turn) → run world turns ≡ Some last → after world turns ≡ last
after_is world last turns goes = ap (λ (o : Option WorldState). unwrap_or o world) goes

-- the world at a moment, from which the rest of the turns goes on
pub moment_goes : (world last : WorldState) (turns : List Turn) (n : ℕ) → run world turns ≡ Some last → (run world (take n turns) ≡ Some (after world (take n turns))) × (run (after world (take n turns)) (drop n turns) ≡ Some last)
moment_goes world last turns n goes =
    let parts = run_parts (take n turns) (drop n turns) world last (ap (run world) (take-append-drop n turns) ∙ goes) in
    let at : after world (take n turns) ≡ parts.0 = after_is world parts.0 (take n turns) parts.1 in
    (parts.1 ∙ ap (λ (w : WorldState). Some w) (sym at), ap (λ (w : WorldState). run w (drop n turns)) at ∙ parts.2)

-- one step more
pub run_more : (world last next : WorldState) (turns : List Turn) (turn : Turn) → run world turns ≡ Some last → step last turn ≡ Some next → run world (turns ++ turn ∷ []) ≡ Some next
run_more world last next turns turn goes steps =
    run-append turns (turn ∷ []) world last goes ∙ ap (option_and_then (λ (w : WorldState). run w [])) steps
