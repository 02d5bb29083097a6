-- The moments that are kept, as turns come.
use Rattle.std.proofs.Common.{◌≡◌, ◌≤◌, ◌<◌, ◌+◌, ◌++◌, ◌&&◌, inl, inr, if◌then◌else◌, ℕ, zero, suc, Bool, true, false, List, [], ◌∷◌, Some, length, take, drop, length-append, refl, ap, sym, ◌∙◌, subst, arith}
use Rattle.std.proofs.Math.ListN.{get_or}
use Rattle.std.proofs.lemmas.Bool.{cases_lt}
use Rattle.std.proofs.lemmas.List.Folds.{list_all-append}
use Rattle.mc_box.specs.declared.event.Turn.{Turn}
use Rattle.mc_laws.proofs.CommandsGo.{both_true}
use Rattle.mc_model.specs.Settles.{commands_of, rests, takes_or_retries}
use Rattle.mc_model.specs.Steps.{after, run}
use Rattle.mc_model.specs.Worlds.{WorldState}
use Rattle.mc_seq.proofs.Segments.{all_besides, both_there}
use Rattle.mc_replay.specs.Counts.{owed_count}
use Rattle.mc_replay.specs.Moments.{AreMoments, IsKeptOf, IsMoment, no_moment, retry_count}
use Rattle.mc_replay.specs.declared.moments.QuietMoment.{QuietMoment}
use Rattle.mc_replay.proofs.Prefixes.{after_is, drop_before, drop_end, longer, take_before, take_end}

-- a moment that is one of those that are kept
abbrev pub Kept : WorldState → List Turn → ℕ → List QuietMoment → ℕ → Type 0
Kept world turns before moments n = (i : ℕ) × (i < length moments) × IsKeptOf world turns before n (get_or moments i no_moment)

-- each that is kept is a moment, and each moment before the present is kept
pub record AreMomentsBefore (world : WorldState) (batch turns : List Turn) (before : ℕ) (moments : List QuietMoment) : Type 0 where
  pub each : (i : ℕ) → i < length moments → (n : ℕ) × IsMoment world batch turns n × IsKeptOf world turns before n (get_or moments i no_moment)
  pub past : (n : ℕ) → n < length turns → IsMoment world batch turns n → Kept world turns before moments n

-- ---- the present

pub get_first : (xs : List QuietMoment) (x : QuietMoment) (i : ℕ) → i < length xs → get_or (xs ++ x ∷ []) i no_moment ≡ get_or xs i no_moment
get_first [] x i inside = absurd (omega (arith, inside))
get_first (y ∷ xs) x zero inside = refl
get_first (y ∷ xs) x (suc i) inside = get_first xs x i (omega (arith, inside))

pub get_last : (xs : List QuietMoment) (x : QuietMoment) → get_or (xs ++ x ∷ []) (length xs) no_moment ≡ x
get_last [] x = refl
get_last (y ∷ xs) x = get_last xs x

-- what is kept of the present
pub now_kept : (world last : WorldState) (turns : List Turn) (before n : ℕ) (kept : QuietMoment) → run world turns ≡ Some last → kept.retries ≡ before + retry_count turns → kept.owed ≡ owed_count last → n ≡ length turns → IsKeptOf world turns before n kept
now_kept world last turns before n kept goes retries owed end =
    let all : take n turns ≡ turns = take_end turns n end in
    record {
      retries = retries ∙ ap (λ (l : List Turn). before + retry_count l) (sym all);
      owed = owed ∙ ap owed_count (sym (after_is world last turns goes) ∙ ap (after world) (sym all));
    }

-- where the world rests now and the batch is used up, the present is a moment
pub is_moment : (world last : WorldState) (batch turns : List Turn) → run world turns ≡ Some last → rests last ≡ true → ((who : ℕ) → commands_of who turns ≡ commands_of who batch) → IsMoment world batch turns (length turns)
is_moment world last batch turns goes rest used =
    let all : take (length turns) turns ≡ turns = take_end turns (length turns) refl in
    record {
      within = omega arith;
      at_rest = ap (λ (l : List Turn). rests (after world l)) all ∙ (ap rests (after_is world last turns goes) ∙ rest);
      used_up = λ who. ap (commands_of who) all ∙ used who;
      besides = ap all_besides (drop_end turns (length turns) refl);
    }

-- and only there
pub moment_now : (world last : WorldState) (batch turns : List Turn) (n : ℕ) → run world turns ≡ Some last → n ≡ length turns → IsMoment world batch turns n → (rests last ≡ true) × ((who : ℕ) → commands_of who turns ≡ commands_of who batch)
moment_now world last batch turns n goes end moment =
    let all : take n turns ≡ turns = take_end turns n end in
    (ap rests (sym (after_is world last turns goes)) ∙ (ap (λ (l : List Turn). rests (after world l)) (sym all) ∙ moment.at_rest), λ who. ap (commands_of who) (sym all) ∙ moment.used_up who)

pub kept_by : (now : Bool) (world last : WorldState) (batch turns : List Turn) (before : ℕ) (old : List QuietMoment) (kept : QuietMoment) → run world turns ≡ Some last → AreMomentsBefore world batch turns before old
    → kept.retries ≡ before + retry_count turns → kept.owed ≡ owed_count last
    → (now ≡ true → IsMoment world batch turns (length turns)) → ((n : ℕ) → n ≡ length turns → IsMoment world batch turns n → now ≡ true)
    → AreMoments world batch turns before (if now then old ++ kept ∷ [] else old)
kept_by true world last batch turns before old kept goes moments retries owed here back =
    let long : length (old ++ kept ∷ []) ≡ length old + 1 = length-append old (kept ∷ []) in
    let present : (n : ℕ) → n ≡ length turns → IsKeptOf world turns before n (get_or (old ++ kept ∷ []) (length old) no_moment) = λ n end.
    subst (IsKeptOf world turns before n) (sym (get_last old kept)) (now_kept world last turns before n kept goes retries owed end) in
    record {
      each = λ i inside. elim (cases_lt i (length old)) [
        | inl below ↦
            let found = moments.each i below in
            (found.0, found.1, subst (IsKeptOf world turns before found.0) (sym (get_first old kept i below)) found.2)
        | inr past ↦
            let at : length old ≡ i = omega (arith, past, inside, long) in
            (length turns, here refl, subst (λ (k : ℕ). IsKeptOf world turns before (length turns) (get_or (old ++ kept ∷ []) k no_moment)) at (present (length turns) refl))
      ];
      all = λ n moment. elim (cases_lt n (length turns)) [
        | inl below ↦
            let found = moments.past n below moment in
            (found.0, omega (arith, found.1, long), subst (IsKeptOf world turns before n) (sym (get_first old kept found.0 found.1)) found.2)
        | inr at ↦ (length old, omega (arith, long), present n (omega (arith, at, moment.within)))
      ];
    }
kept_by false world last batch turns before old kept goes moments retries owed here back = record {
  each = moments.each;
  all = λ n moment. elim (cases_lt n (length turns)) [
    | inl below ↦ moments.past n below moment
    | inr at ↦ absurd (let now = back n (omega (arith, at, moment.within)) moment in cc)
  ];
}

-- the present is kept where the world rests and the batch is used up
pub moments_now : (now : Bool) (world last : WorldState) (batch turns : List Turn) (before : ℕ) (old new : List QuietMoment) (kept : QuietMoment) → run world turns ≡ Some last → AreMomentsBefore world batch turns before old
    → kept.retries ≡ before + retry_count turns → kept.owed ≡ owed_count last
    → (now ≡ true → IsMoment world batch turns (length turns)) → ((n : ℕ) → n ≡ length turns → IsMoment world batch turns n → now ≡ true)
    → new ≡ (if now then old ++ kept ∷ [] else old) → AreMoments world batch turns before new
moments_now now world last batch turns before old new kept goes moments retries owed here back is =
    subst (AreMoments world batch turns before) (sym is) (kept_by now world last batch turns before old kept goes moments retries owed here back)

-- before the first turn there is none
pub no_moments : (world : WorldState) (batch : List Turn) (before : ℕ) → AreMomentsBefore world batch [] before []
no_moments world batch before = record {
  each = λ i inside. absurd (omega (arith, inside));
  past = λ n below moment. absurd (omega (arith, below));
}

-- ---- one turn more

-- after a Take or a retry a moment stays one
pub moment_stays : (world : WorldState) (batch turns : List Turn) (turn : Turn) (n : ℕ) → takes_or_retries turn.event ≡ true → IsMoment world batch turns n → IsMoment world batch (turns ++ turn ∷ []) n
moment_stays world batch turns turn n besides moment =
    let same = take_before turns turn n moment.within in
    record {
      within = omega (arith, moment.within, longer turns turn);
      at_rest = ap (λ (l : List Turn). rests (after world l)) same ∙ moment.at_rest;
      used_up = λ who. ap (commands_of who) same ∙ moment.used_up who;
      besides = ap all_besides (drop_before turns turn n moment.within)
          ∙ (list_all-append (λ (t : Turn). takes_or_retries t.event) (drop n turns) (turn ∷ []) ∙ both_there (all_besides (drop n turns)) (all_besides (turn ∷ [])) moment.besides (both_there (takes_or_retries turn.event) true besides refl));
    }

-- and a moment from before was one, and after it comes a Take or a retry
pub moment_was : (world : WorldState) (batch turns : List Turn) (turn : Turn) (n : ℕ) → n ≤ length turns → IsMoment world batch (turns ++ turn ∷ []) n → IsMoment world batch turns n × (takes_or_retries turn.event ≡ true)
moment_was world batch turns turn n within moment =
    let same = take_before turns turn n within in
    let all : (all_besides (drop n turns) && all_besides (turn ∷ [])) ≡ true =
    sym (list_all-append (λ (t : Turn). takes_or_retries t.event) (drop n turns) (turn ∷ [])) ∙ (ap all_besides (sym (drop_before turns turn n within)) ∙ moment.besides) in
    let both = both_true (all_besides (drop n turns)) (all_besides (turn ∷ [])) all in (
      record {
        within = within;
        at_rest = ap (λ (l : List Turn). rests (after world l)) (sym same) ∙ moment.at_rest;
        used_up = λ who. ap (commands_of who) (sym same) ∙ moment.used_up who;
        besides = both.0;
      },
      (both_true (takes_or_retries turn.event) true both.1).0,
    )

-- what is kept of it is kept of the longer list
pub kept_stays : (world : WorldState) (turns : List Turn) (turn : Turn) (before n : ℕ) (kept : QuietMoment) → n ≤ length turns → IsKeptOf world turns before n kept → IsKeptOf world (turns ++ turn ∷ []) before n kept
kept_stays world turns turn before n kept within is =
    let same = sym (take_before turns turn n within) in
    record {
      retries = is.retries ∙ ap (λ (l : List Turn). before + retry_count l) same;
      owed = is.owed ∙ ap (λ (l : List Turn). owed_count (after world l)) same;
    }

-- a command and a Shift leave none of those that came before
pub forgotten : (b : Bool) (world : WorldState) (batch turns : List Turn) (turn : Turn) (before : ℕ) (old : List QuietMoment) → takes_or_retries turn.event ≡ b → AreMoments world batch turns before old
    → AreMomentsBefore world batch (turns ++ turn ∷ []) before (if b then old else [])
forgotten true world batch turns turn before old is moments = record {
  each = λ i inside.
      let found = moments.each i inside in
      (found.0, moment_stays world batch turns turn found.0 is found.1, kept_stays world turns turn before found.0 (get_or old i no_moment) found.1.within found.2);
  past = λ n below moment.
      let within : n ≤ length turns = omega (arith, below, longer turns turn) in
      let found = moments.all n (moment_was world batch turns turn n within moment).0 in
      (found.0, found.1, kept_stays world turns turn before n (get_or old found.0 no_moment) within found.2);
}
forgotten false world batch turns turn before old is moments = record {
  each = λ i inside. absurd (omega (arith, inside));
  past = λ n below moment.
      let within : n ≤ length turns = omega (arith, below, longer turns turn) in
      absurd (let besides = (moment_was world batch turns turn n within moment).1 in cc);
}

pub moments_forgotten : (world : WorldState) (batch turns : List Turn) (turn : Turn) (before : ℕ) (old new : List QuietMoment) → AreMoments world batch turns before old → new ≡ (if takes_or_retries turn.event then old else [])
    → AreMomentsBefore world batch (turns ++ turn ∷ []) before new
moments_forgotten world batch turns turn before old new moments is =
    subst (AreMomentsBefore world batch (turns ++ turn ∷ []) before) (sym is) (forgotten (takes_or_retries turn.event) world batch turns turn before old refl moments)
