-- What is known of closes as turns go on: each slot's are counted, and each comes from a turn of its own accord.
use Rattle.std.proofs.Common.{◌≡◌, ◌≢◌, ◌<◌, ◌≤◌, ◌+◌, ◌==◌, ◌++◌, if◌then◌else◌, ℕ, zero, suc, Bool, true, false, Option, Some, None, List, [], ◌∷◌, length, get_or, append_assoc, length-append, refl, ap, sym, ◌∙◌, subst, arith}
use Rattle.std.specs.List.{last_or}
use Rattle.std.specs.Option.{option_and_then, unwrap_or}
use Rattle.std.specs.Prelude.{replicate}
use Rattle.std.proofs.lemmas.List.{length-replicate}
use Rattle.mc_signal.specs.declared.Signal.{Signal}
use Rattle.mc_signal.specs.declared.Signal.TheVariants.{Open, Oack, Close, Closeack, Describe, Select}
use Rattle.mc_slot.specs.Outlook.{acks, close_of, closes, waits}
use Rattle.mc_slot.specs.declared.State.{State}
use Rattle.mc_slot.specs.declared.State.TheVariants.{Closed, Opening, Opened, Flowing, Closing}
use Rattle.mc_box.specs.declared.event.Turn.{Turn}
use Rattle.mc_model.specs.Sound.{IsSound}
use Rattle.mc_model.specs.Steps.{after, run, step}
use Rattle.mc_model.specs.Worlds.{ChannelState, WorldState, far, list_to, places_among, slot_count, slot_of}
use Rattle.mc_cause.specs.Causes.{Known, becomes_closed, cause, is_at, known_after, known_from, next_world, none_known, origin, sends, taken, takes_close, taking, where_close}
use Rattle.mc_cause.specs.CauseLaws.{Begins, CausesBegin, NoneCloses, begins_close}
use Rattle.mc_cause.proofs.Sending.{close_begins, close_is_taken}
use Rattle.mc_cause.proofs.Told.{close_taken, count_at, step_told}
use Rattle.mc_box.proofs.Options.{then_some}
use Rattle.mc_laws.proofs.ActedWorlds.{far_inside}
use Rattle.mc_laws.proofs.Numbers.{far_back}
use Rattle.mc_laws.proofs.StepActs.{step_acts}
use Rattle.mc_laws.proofs.StepKeeps.{step_keeps_sound}

-- ---- lists of numbers of turns

-- it holds of each
abbrev pub Each : (ℕ → Type 0) → List ℕ → Type 0
Each P [] = Unit {0}
Each P (x ∷ xs) = P x × Each P xs

each_append : (P : ℕ → Type 0) (xs ys : List ℕ) → Each P xs → Each P ys → Each P (xs ++ ys)
each_append P [] ys one two = two
each_append P (x ∷ xs) ys one two = (one.0, each_append P xs ys one.1 two)

each_same : (P : ℕ → Type 0) (n x : ℕ) → (1 ≤ n → P x) → Each P (replicate n x)
each_same P zero x holds = tt
each_same P (suc n) x holds = (holds (omega arith), each_same P n x (λ some. holds (omega arith)))

each_at : (P : ℕ → Type 0) (xs : List ℕ) (k : ℕ) → k < length xs → Each P xs → P (get_or xs k 0)
each_at P [] k below each = absurd (omega arith)
each_at P (x ∷ xs) zero below each = each.0
each_at P (x ∷ xs) (suc k) below each = each_at P xs k (omega arith) each.1

each_last : (P : ℕ → Type 0) (xs : List ℕ) (o : Option ℕ) (x : ℕ) → ((y : ℕ) → o ≡ Some y → P y) → Each P xs → last_or o xs ≡ Some x → P x
each_last P [] o x first each is = first x is
each_last P (y ∷ xs) o x first each is = each_last P xs (Some y) x (λ z same. subst P (let e : y ≡ z = cc in e) each.0) each.1 is

-- ---- each slot's closes are counted

-- as many as a slot has sent the far slot has taken, or they are under way to it; and one that waits for a closeack has sent one
pub record IsCounted (world : WorldState) (known : Known) (s : ℕ) : Type 0 where
  pub counted : length (known.origins s) ≡ known.taken (far s) + closes (list_to world (far s))
  pub waited : 1 ≤ waits (slot_of world s).state → 1 ≤ length (known.origins s)

abbrev pub AreCounted : WorldState → Known → Type 0
AreCounted world known = (s : ℕ) → s < slot_count world → IsCounted world known s

pub waits_few : (state : State) → waits state ≤ 1
waits_few Closed = omega arith
waits_few Opening = omega arith
waits_few Opened = omega arith
waits_few Flowing = omega arith
waits_few Closing = omega arith

waits_none : (state : State) → state ≢ Closing → waits state ≡ 0
waits_none Closed other = refl
waits_none Opening other = refl
waits_none Opened other = refl
waits_none Flowing other = refl
waits_none Closing other = absurd (other refl)

-- at the beginning
pub none_counted : (world : WorldState) → IsSound world → NoneCloses world → AreCounted world none_known
none_counted world sound none s inside =
    let still : waits (slot_of world s).state ≡ 0 = waits_none (slot_of world s).state (none s inside) in
    let all : closes (list_to world (far s)) + acks (list_to world s) ≡ waits (slot_of world s).state = (sound.tunnels s inside).first_waits in
    record {
      counted = omega arith;
      waited = λ waited. omega arith;
    }

abbrev one_if : Bool → ℕ
one_if test = if test then 1 else 0

abbrev none_if : Bool → ℕ
none_if test = if test then 0 else 0

zero_by : (test : Bool) → zero ≡ none_if test
zero_by true = refl
zero_by false = refl

-- the mark of the slot that takes a close
mark_is : (signal : Option Signal) (slot : Option ℕ) (s : ℕ) → one_if (is_at (where_close signal slot) s) ≡ count_at close_of signal slot s
mark_is None slot s = refl
mark_is (Some signal) None s = marked_none signal s
  where
    marked_none : (signal : Signal) (s : ℕ) → one_if (is_at (where_close (Some signal) None) s) ≡ 0
    marked_none Close s = refl
    marked_none signal s = refl
mark_is (Some Close) (Some t) s = refl
mark_is (Some Closeack) (Some t) s = zero_by (t == s)
mark_is (Some (Open medium d)) (Some t) s = zero_by (t == s)
mark_is (Some (Oack d)) (Some t) s = zero_by (t == s)
mark_is (Some (Describe d)) (Some t) s = zero_by (t == s)
mark_is (Some (Select d)) (Some t) s = zero_by (t == s)

pub next_is : (world next : WorldState) (turn : Turn) → step world turn ≡ Some next → next_world world turn ≡ next
next_is world next turn goes = ap (λ (o : Option WorldState). unwrap_or o world) goes

pub same_count : (world next : WorldState) (turn : Turn) → IsSound world → step world turn ≡ Some next → slot_count next ≡ slot_count world
same_count world next turn sound goes = ap (λ (channels : List ChannelState). length (places_among channels)) (step_acts world next turn sound goes).channels

-- one turn more
pub more_counted : (world next : WorldState) (turn : Turn) (known : Known) → IsSound world → step world turn ≡ Some next → AreCounted world known → AreCounted next (known_after known world turn)
more_counted world next turn known sound goes counted s below =
    let inside : s < slot_count world = subst (λ (n : ℕ). s < n) (same_count world next turn sound goes) below in
    let here = step_told world next turn s sound goes inside in
    let there = step_told world next turn (far s) sound goes (far_inside world s inside) in
    let n : ℕ = closes (sends world turn s) in
    let from : ℕ = origin known (takes_close world turn) in
    let grown : length (known.origins s ++ replicate (closes (sends world turn s)) (origin known (takes_close world turn))) ≡ length (known.origins s) + closes (sends world turn s) =
    length-append (known.origins s) (replicate (closes (sends world turn s)) (origin known (takes_close world turn)))
    ∙ ap (λ (k : ℕ). length (known.origins s) + k) (length-replicate (closes (sends world turn s)) (origin known (takes_close world turn))) in
    record {
      counted =
          let old : length (known.origins s) ≡ known.taken (far s) + closes (list_to world (far s)) = (counted s inside).counted in
          let mark : (one_if (is_at (takes_close world turn) (far s))) ≡ close_taken world turn (far s) = mark_is (taken world turn) (taking world turn) (far s) in
          let list : closes (list_to next (far s)) + close_taken world turn (far s) ≡ closes (list_to world (far s)) + closes (sends world turn s) =
          there.list ∙ ap (λ (t : ℕ). closes (list_to world (far s)) + closes (sends world turn t)) (far_back s) in
          count_more (length (known.origins s)) (closes (sends world turn s)) (known.taken (far s)) (closes (list_to world (far s))) (closes (list_to next (far s))) (close_taken world turn (far s))
          (one_if (is_at (takes_close world turn) (far s))) (length (known.origins s ++ replicate (closes (sends world turn s)) (origin known (takes_close world turn)))) old mark list grown;
      waited = λ waited. wait_more (waits (slot_of world s).state) (waits (slot_of next s).state) (closes (sends world turn s)) (length (known.origins s))
          (length (known.origins s ++ replicate (closes (sends world turn s)) (origin known (takes_close world turn)))) _ here.waiting (counted s inside).waited grown waited;
    }
  where
    count_more : (long more took under left taken mark all : ℕ) → long ≡ took + under → mark ≡ taken → left + taken ≡ under + more → all ≡ long + more → all ≡ took + mark + left
    count_more long more took under left taken mark all one two three four = omega arith

    wait_more : (old new more long all ack : ℕ) → more + old ≡ ack + new → (1 ≤ old → 1 ≤ long) → all ≡ long + more → 1 ≤ new → 1 ≤ all
    wait_more zero new more long all ack one two three four = omega arith
    wait_more (suc old) new more long all ack one two three four = let some : 1 ≤ long = two (omega arith) in omega arith

-- all turns
pub all_counted : (turns : List Turn) (world last : WorldState) (known : Known) → IsSound world → AreCounted world known → run world turns ≡ Some last → AreCounted last (known_from known world turns)
all_counted [] world last known sound counted goes = let same : world ≡ last = cc in subst (λ (w : WorldState). AreCounted w known) same counted
all_counted (turn ∷ turns) world last known sound counted goes =
    let one = then_some (λ (next : WorldState). run next turns) (step world turn) last goes in
    subst (λ (w : WorldState). AreCounted last (known_from (known_after known world turn) w turns)) (sym (next_is world one.0 turn one.1))
    (all_counted turns one.0 last (known_after known world turn) (step_keeps_sound world one.0 turn sound one.1) (more_counted world one.0 turn known sound one.1 counted) one.2)

pub counted_from_new : (world last : WorldState) (turns : List Turn) → IsSound world → NoneCloses world → run world turns ≡ Some last → AreCounted last (known_from none_known world turns)
counted_from_new world last turns sound none goes = all_counted turns world last none_known sound (none_counted world sound none) goes

-- the last turn is made after the others
pub known_more : (turns : List Turn) (world last : WorldState) (known : Known) (turn : Turn) → run world turns ≡ Some last
    → known_from known world (turns ++ turn ∷ []) ≡ known_after (known_from known world turns) last turn
known_more [] world last known turn goes = let same : world ≡ last = cc in ap (λ (w : WorldState). known_after known w turn) same
known_more (first ∷ turns) world last known turn goes =
    let one = then_some (λ (next : WorldState). run next turns) (step world first) last goes in
    let next : next_world world first ≡ one.0 = next_is world one.0 first one.1 in
    known_more turns (next_world world first) last (known_after known world first) turn (ap (λ (w : WorldState). run w turns) next ∙ one.2)

-- ---- where closes come from

-- it holds of each turn from which a close came that a slot has sent, and of each cause
pub record Holds (P : ℕ → Type 0) (world : WorldState) (known : Known) : Type 0 where
  pub origins : (s : ℕ) → s < slot_count world → Each P (known.origins s)
  pub causes : (s at : ℕ) → s < slot_count world → known.why s ≡ Some at → P at

-- a close that is taken has been sent
pub taken_sent : (world : WorldState) (turn : Turn) (known : Known) (t : ℕ) → AreCounted world known → takes_close world turn ≡ Some t → known.taken t < length (known.origins (far t))
taken_sent world turn known t counted is =
    let takes = close_is_taken world turn t is in
    let all = (counted (far t) (far_inside world t takes.inside)).counted in
    let back : length (known.origins (far t)) ≡ known.taken t + closes (list_to world t) = all ∙ ap (λ (s : ℕ). known.taken s + closes (list_to world s)) (far_back t) in
    let some : 1 ≤ closes (list_to world t) = takes.some in
    omega arith

origin_holds : (P : ℕ → Type 0) (world : WorldState) (turn : Turn) (known : Known) (t : ℕ) → AreCounted world known → Holds P world known → takes_close world turn ≡ Some t → P (origin known (Some t))
origin_holds P world turn known t counted holds is =
    each_at P (known.origins (far t)) (known.taken t) (taken_sent world turn known t counted is) (holds.origins (far t) (far_inside world t (close_is_taken world turn t is).inside))

cause_holds : (P : ℕ → Type 0) (closing : Option ℕ) (world : WorldState) (turn : Turn) (known : Known) (s at : ℕ) → takes_close world turn ≡ closing → s < slot_count world → AreCounted world known → Holds P world known
    → cause known closing s ≡ Some at → P at
cause_holds P (Some t) world turn known s at is inside counted holds caused = subst P (let same : origin known (Some t) ≡ at = cc in same) (origin_holds P world turn known t counted holds is)
cause_holds P None world turn known s at is inside counted holds caused = each_last P (known.origins s) None at (λ y same. absurd (cc)) (holds.origins s inside) caused

sent_holds : (P : ℕ → Type 0) (closing : Option ℕ) (world next : WorldState) (turn : Turn) (known : Known) (s : ℕ) → takes_close world turn ≡ closing → IsSound world → step world turn ≡ Some next
    → AreCounted world known → Holds P world known → (begins_close world turn ≡ true → P (known.turns + 1)) → 1 ≤ closes (sends world turn s) → P (origin known closing)
sent_holds P (Some t) world next turn known s is sound goes counted holds begins some = origin_holds P world turn known t counted holds is
sent_holds P None world next turn known s is sound goes counted holds begins some = begins (close_begins world next turn s sound goes is some)

either_holds : (P : ℕ → Type 0) (test : Bool) (new old : Option ℕ) (at : ℕ) → (new ≡ Some at → P at) → (old ≡ Some at → P at) → (if test then new else old) ≡ Some at → P at
either_holds P true new old at one two is = one is
either_holds P false new old at one two is = two is

more_holds : (P : ℕ → Type 0) (world next : WorldState) (turn : Turn) (known : Known) → IsSound world → step world turn ≡ Some next → AreCounted world known → Holds P world known
    → (begins_close world turn ≡ true → P (known.turns + 1)) → Holds P next (known_after known world turn)
more_holds P world next turn known sound goes counted holds begins =
    let count = same_count world next turn sound goes in
    record {
      origins = λ s below.
          each_append P (known.origins s) (replicate (closes (sends world turn s)) (origin known (takes_close world turn))) (holds.origins s (subst (λ (n : ℕ). s < n) count below))
          (each_same P (closes (sends world turn s)) (origin known (takes_close world turn))
          (λ some. sent_holds P (takes_close world turn) world next turn known s refl sound goes counted holds begins some));
      causes = λ s at below is.
          either_holds P (becomes_closed world turn s) (cause known (takes_close world turn) s) (known.why s) at
          (λ caused. cause_holds P (takes_close world turn) world turn known s at refl (subst (λ (n : ℕ). s < n) count below) counted holds caused)
          (λ old. holds.causes s at (subst (λ (n : ℕ). s < n) count below) old) is;
    }

-- where it holds of each turn of its own accord
abbrev pub HoldsOfBegins : (ℕ → Type 0) → WorldState → List Turn → Type 0
HoldsOfBegins P first all = (before rest : List Turn) (turn : Turn) → all ≡ before ++ turn ∷ rest → begins_close (after first before) turn ≡ true → P (length before + 1)

pub run_more : (before : List Turn) (first world next : WorldState) (turn : Turn) → run first before ≡ Some world → step world turn ≡ Some next → run first (before ++ turn ∷ []) ≡ Some next
run_more [] first world next turn goes made =
    let same : first ≡ world = cc in
    ap (λ (w : WorldState). option_and_then (λ (n : WorldState). run n []) (step w turn)) same ∙ ap (option_and_then (λ (n : WorldState). run n [])) made
run_more (one ∷ before) first world next turn goes made =
    let step_one = then_some (λ (n : WorldState). run n before) (step first one) world goes in
    ap (option_and_then (λ (n : WorldState). run n (before ++ turn ∷ []))) step_one.1 ∙ run_more before step_one.0 world next turn step_one.2 made

all_hold : (rest before all : List Turn) (P : ℕ → Type 0) (first world last : WorldState) (known : Known) → HoldsOfBegins P first all → run first before ≡ Some world → IsSound world → AreCounted world known
    → Holds P world known → known.turns ≡ length before → all ≡ before ++ rest → run world rest ≡ Some last → Holds P last (known_from known world rest)
all_hold [] before all P first world last known begin ran sound counted holds count is goes = let same : world ≡ last = cc in subst (λ (w : WorldState). Holds P w known) same holds
all_hold (turn ∷ rest) before all P first world last known begin ran sound counted holds count is goes =
    let one = then_some (λ (next : WorldState). run next rest) (step world turn) last goes in
    let here : after first before ≡ world = ap (λ (o : Option WorldState). unwrap_or o first) ran in
    let begins : begins_close world turn ≡ true → P (known.turns + 1) = λ begins_here. subst (λ (n : ℕ). P (n + 1)) (sym count) (begin before rest turn is (ap (λ (w : WorldState). begins_close w turn) here ∙ begins_here)) in
    let more : known.turns + 1 ≡ length (before ++ turn ∷ []) = ap (λ (n : ℕ). n + 1) count ∙ sym (length-append before (turn ∷ [])) in
    subst (λ (w : WorldState). Holds P last (known_from (known_after known world turn) w rest)) (sym (next_is world one.0 turn one.1))
    (all_hold rest (before ++ turn ∷ []) all P first one.0 last (known_after known world turn) begin (run_more before first world one.0 turn ran one.1) (step_keeps_sound world one.0 turn sound one.1)
    (more_counted world one.0 turn known sound one.1 counted) (more_holds P world one.0 turn known sound one.1 counted holds begins) more (is ∙ sym (append_assoc before (turn ∷ []) rest)) one.2)

-- turns leave the number of slots as it is
pub run_count : (turns : List Turn) (world last : WorldState) → IsSound world → run world turns ≡ Some last → slot_count last ≡ slot_count world
run_count [] world last sound goes = let same : world ≡ last = cc in ap slot_count (sym same)
run_count (turn ∷ turns) world last sound goes =
    let one = then_some (λ (next : WorldState). run next turns) (step world turn) last goes in
    run_count turns one.0 last (step_keeps_sound world one.0 turn sound one.1) one.2 ∙ same_count world one.0 turn sound one.1

pub causes_begin : CausesBegin
causes_begin world last turns s at sound none goes inside is =
    let begin : HoldsOfBegins (Begins world turns) world turns = λ before rest turn splits begins. record { before = before; turn = turn; rest = rest; splits = splits; counted = refl; begins = begins } in
    let nothing : Holds (Begins world turns) world none_known = record { origins = λ t below. tt; causes = λ t n below caused. absurd (cc) } in
    let all = all_hold turns [] turns (Begins world turns) world world last none_known begin refl sound (none_counted world sound none) nothing refl refl goes in
    all.causes s at (subst (λ (n : ℕ). s < n) (sym (run_count turns world last sound goes)) inside) is
