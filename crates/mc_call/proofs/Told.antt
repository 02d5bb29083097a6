-- What was read of what a source has left, and faults that were counted.
use Rattle.std.proofs.Common.{◌≡◌, ◌==◌, ℕ, List, ◌≤◌, Bool, true, None, Some, arith, subst, ap, ◌∙◌, refl}
use Rattle.std.specs.declared.option.Option.{Option}
use Rattle.std.specs.Io.KnownBytes.{Keeps}
use Rattle.mc_call.specs.Calls.{IsTextOf, ToldDeclares, ToldFault}
use Rattle.mc_io.specs.Faults.{Rose, faults_after, next_count}
use Rattle.mc_lines.specs.declared.tail.Tail.{Tail}
use Rattle.mc_net.proofs.FirstBytes.{faults_of_the_first_bytes, nets_of_the_first_bytes}
use Rattle.mc_net.specs.Nets.{DeclaresNet}
use Rattle.mc_net.specs.Texts.{IsFault}
use Rattle.mc_net.specs.declared.net.Net.{Net}

-- the fault of the text that was read is that of what was left
pub told_fault : (tail : Tail) (told : Option (List ℕ)) (text : List ℕ) (number line : ℕ) → IsTextOf tail told text → IsFault tail text number line → ToldFault tail told number line
told_fault tail None text number line read fault = tt
told_fault tail (Some all) text number line read fault = faults_of_the_first_bytes tail all number line (subst (λ (t : List ℕ). IsFault tail t number line) read fault)

-- the text that was read declares a network, and so does what was left
pub told_declares : (tail : Tail) (told : Option (List ℕ)) (text : List ℕ) (net : Net) → IsTextOf tail told text → DeclaresNet tail text net → ToldDeclares tail told net
told_declares tail None text net read declares = tt
told_declares tail (Some all) text net read declares = nets_of_the_first_bytes tail all net (subst (λ (t : List ℕ). DeclaresNet tail t net) read declares)

-- nothing was written
pub keeps_same : (old : Option (List ℕ)) → Keeps old old
keeps_same None = tt
keeps_same (Some bytes) = refl

-- ---- counted faults

le_self : (n : ℕ) → n ≤ n
le_self n = omega arith

-- a call that failed was counted
failed_rose : (before now : ℕ) (failed : Bool) → now ≡ faults_after before failed → failed ≡ true → Rose before now
failed_rose before now failed counted is =
    let risen : now ≡ next_count before = counted ∙ ap (faults_after before) is in
    subst (λ (n : ℕ). n ≤ now) risen (le_self now)

-- a status that comes with a counted fault alone doesn't come without one
pub not_failed : (before now status fault : ℕ) → now ≡ faults_after before (status == fault) → (Rose before now → ⊥) → status ≡ fault → ⊥
not_failed before now status fault counted unrisen is =
    let failed : (status == fault) ≡ true = grind (arith, is) in
    unrisen (failed_rose before now (status == fault) counted failed)
