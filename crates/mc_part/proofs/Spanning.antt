-- Spans of a part, one after another.
use Rattle.std.proofs.Common.{◌≡◌, ◌≢◌, inl, inr, ℕ, ◌<◌, List, [], ◌++◌, ◌+◌, length, append_assoc, refl, ap, sym, ◌∙◌, subst, arith}
use Rattle.std.specs.List.{AllByRecursion}
use Rattle.std.proofs.lemmas.Bool.{cases_eq}
use Rattle.std.proofs.lemmas.Grind.{common_steps}
use Rattle.std.proofs.lemmas.List.{append-nil}
use Rattle.mc_signal.specs.declared.Tagged.{Tagged}
use Rattle.mc_model.specs.Worlds.{WorldState}
use Rattle.mc_merge.specs.Account.{IsPartWork, PartState}
use Rattle.mc_merge.specs.Logs.{Own}
use Rattle.mc_merge.specs.Passing.{LanePasses}
use Rattle.mc_merge.specs.Steps.{at_lane}
use Rattle.mc_merge.specs.Turns.{no_items}
use Rattle.mc_merge.proofs.ClockJoins.{clocks_join}
use Rattle.mc_merge.proofs.Clocks.{none_there}
use Rattle.mc_merge.proofs.Joins.{parts_join}
use Rattle.mc_merge.proofs.Logs.{all_append}
use Rattle.mc_merge.proofs.Rings.{here}
use Rattle.mc_part.specs.Spans.{NothingIsSpan, SpansJoin}
use Rattle.mc_port.specs.declared.stamped.Stamped.{Stamped}

-- ---- nothing

stays : (slack : ℕ) (lane : List Tagged) → LanePasses slack lane [] [] lane
stays slack lane = record { order = sym (append-nil lane); later = λ j k taking coming at at_taken at_came. absurd (cc) }

pub nothing_is_work : (tables : WorldState) (a : PartState) → IsPartWork tables a a [] no_items no_items
nothing_is_work tables a = record {
  box_count = refl;
  lane_count = refl;
  made = λ who. refl;
  fits = λ who. tt;
  rising = omega arith;
  hears = tt;
  heard = omega arith;
  came = λ lane. tt;
  went = λ lane. tt;
  inner = λ lane inside from to. stays 0 _;
  ins = λ lane inside off to. stays 0 _;
  outs = λ lane inside from away. stays 1 _;
}

pub nothing_is_span : NothingIsSpan
nothing_is_span tables a ports = record {
  work = nothing_is_work tables a;
  clocked = record { stamp = inl refl; heard = inl refl; turns = λ k has. absurd (none_there (k + 1) has); puts = λ lane k has. absurd (none_there k has) };
  known = tt;
  received = λ lane. sym (append-nil (ports.received lane));
  given = λ lane. sym (append-nil (ports.given lane));
}

-- ---- one after another

known_on : (log : List Own) (n m : ℕ) → n ≡ m → AllByRecursion (λ (own : Own). own.who < n) log → AllByRecursion (λ (own : Own). own.who < m) log
known_on log n m same all = subst (λ (k : ℕ). AllByRecursion (λ (own : Own). own.who < k) log) same all

joined : (one two three gave gave_2 : List Stamped) → two ≡ one ++ gave → three ≡ two ++ gave_2 → three ≡ one ++ (gave ++ gave_2)
joined one two three gave gave_2 first second = second ∙ (ap (λ (l : List Stamped). l ++ gave_2) first ∙ append_assoc one gave gave_2)

pub spans_join : SpansJoin
spans_join tables a b c one two three log log_2 gave gave_2 put put_2 first second = record {
  work = parts_join tables a b c log log_2 gave gave_2 put put_2 first.work second.work;
  clocked = clocks_join a b c log log_2 gave gave_2 put put_2 first.clocked second.clocked;
  known = all_append (λ (own : Own). own.who < length a.boxes) log log_2 first.known (known_on log_2 (length b.boxes) (length a.boxes) first.work.box_count second.known);
  received = λ lane. joined (one.received lane) (two.received lane) (three.received lane) (gave lane) (gave_2 lane) (first.received lane) (second.received lane);
  given = λ lane. joined (one.given lane) (two.given lane) (three.given lane) (put lane) (put_2 lane) (first.given lane) (second.given lane);
}

-- ---- ports

elsewhere : (lane : ℕ) (items : List Stamped) (other : ℕ) → other ≢ lane → at_lane lane items other ≡ []
elsewhere lane items other apart = grind (arith, common_steps)

pub by_port : (before after : ℕ → List Stamped) (lane : ℕ) (items : List Stamped) → after lane ≡ before lane ++ items → ((other : ℕ) → other ≢ lane → after other ≡ before other)
    → (other : ℕ) → after other ≡ before other ++ at_lane lane items other
by_port before after lane items is others other = elim (cases_eq other lane) [
  | inl same ↦ ap after same ∙ (is ∙ (ap (λ (n : ℕ). before n ++ items) (sym same) ∙ ap (λ (l : List Stamped). before other ++ l) (sym (here lane items other same))))
  | inr apart ↦ others other apart ∙ (sym (append-nil (before other)) ∙ ap (λ (l : List Stamped). before other ++ l) (sym (elsewhere lane items other apart)))
]
