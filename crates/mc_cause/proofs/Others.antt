-- A turn that takes neither a close nor a closeack, and doesn't close of its own accord, changes no cause.
use Rattle.std.proofs.Common.{◌≡◌, ◌+◌, ◌++◌, inl, inr, if◌then◌else◌, ◌==◌, ℕ, Bool, true, false, Option, Some, None, refl, ap, sym, ◌∙◌, arith}
use Rattle.std.specs.Prelude.{replicate}
use Rattle.std.proofs.lemmas.List.{append-nil}
use Rattle.mc_signal.specs.declared.Signal.{Signal}
use Rattle.mc_signal.specs.declared.Signal.TheVariants.{Open, Oack, Close, Closeack, Describe, Select}
use Rattle.mc_slot.specs.Outlook.{ack_of, closes, waits}
use Rattle.mc_model.specs.Worlds.{slot_of}
use Rattle.mc_cause.specs.Causes.{becomes_closed, cause, origin, sends, taken, takes_close, taking, where_close}
use Rattle.mc_cause.specs.CauseLaws.{OthersKeepCauses, is_closing}
use Rattle.mc_cause.proofs.Sending.{turn_sends}
use Rattle.mc_cause.proofs.Tells.{closed_by}
use Rattle.mc_cause.proofs.Told.{ack_taken, count_at, step_told}

no_close : (signal : Option Signal) (slot : Option ℕ) → is_closing signal ≡ false → where_close signal slot ≡ None
no_close (Some Close) slot is = absurd (cc)
no_close signal slot is = refl

zero_if : (test : Bool) (n : ℕ) → n ≡ 0 → (if test then n else 0) ≡ n
zero_if true n is = refl
zero_if false n is = sym is

no_ack : (signal : Option Signal) (slot : Option ℕ) (s : ℕ) → is_closing signal ≡ false → count_at ack_of signal slot s ≡ 0
no_ack None slot s is = refl
no_ack (Some signal) None s is = refl
no_ack (Some Closeack) (Some t) s is = absurd (cc)
no_ack (Some Close) (Some t) s is = absurd (cc)
no_ack (Some (Open medium d)) (Some t) s is = zero_if (t == s) 0 refl
no_ack (Some (Oack d)) (Some t) s is = zero_if (t == s) 0 refl
no_ack (Some (Describe d)) (Some t) s is = zero_if (t == s) 0 refl
no_ack (Some (Select d)) (Some t) s is = zero_if (t == s) 0 refl

not_chosen : (test : Bool) (one two : Option ℕ) → (test ≡ true → ⊥) → (if test then one else two) ≡ two
not_chosen true one two none = absurd (none refl)
not_chosen false one two none = refl

is_one : (signal : Option Signal) (one : Signal) → is_closing (Some one) ≡ true → is_closing signal ≡ false → signal ≡ Some one → ⊥
is_one signal one closes_it other is = let both : is_closing signal ≡ is_closing (Some one) = ap is_closing is in cc

pub others_keep_causes : OthersKeepCauses
others_keep_causes world next turn known s sound goes none quiet inside =
    let taken_none : takes_close world turn ≡ None = no_close (taken world turn) (taking world turn) none in
    let sent : closes (sends world turn s) ≡ 0 = turn_sends world next turn s sound goes taken_none quiet in
    let told = step_told world next turn s sound goes inside in
    let ack : ack_taken world turn s ≡ 0 = no_ack (taken world turn) (taking world turn) s none in
    let counts : closes (sends world turn s) + waits (slot_of world s).state ≡ ack_taken world turn s + waits (slot_of next s).state = told.waiting in (
      ap (λ (n : ℕ). known.origins s ++ replicate n (origin known (takes_close world turn))) sent ∙ append-nil (known.origins s),
      not_chosen (becomes_closed world turn s) (cause known (takes_close world turn) s) (known.why s)
          (λ closed. elim (closed_by world next turn s sound goes inside closed).1 [
            | inl close ↦ is_one (taken world turn) Close refl none close
            | inr ack_is ↦ is_one (taken world turn) Closeack refl none ack_is.0
          ]),
      omega arith,
    )
