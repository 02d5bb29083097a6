-- The commands of a batch, dealt to operators.
use Rattle.std.proofs.Common.{◌≡◌, ◌≢◌, ◌+◌, ◌<◌, ◌≤◌, ◌%◌, ◌==◌, ◌&&◌, cond, ℕ, suc, Bool, true, false, List, [], ◌∷◌, ◌++◌, length, count_by, get_or, map, append_assoc, drop, drop-cons, refl, sym, ap, ◌∙◌, subst, arith}
use Rattle.std.specs.List.{AllByRecursion, list_all, range_with_len}
use Rattle.std.specs.declared.alloc.Global.{Global}
use Rattle.std.specs.declared.vec.Vec.{Vec}
use Rattle.std.proofs.Math.Nat.{mod-one}
use Rattle.std.proofs.lemmas.Bool.{and_parts, eq-eqb, ne_eqb}
use Rattle.std.proofs.lemmas.List.{get_or-map, length-map, map-append}
use Rattle.std.proofs.lemmas.List.FromFn.{get_or-map-range_with_len, length-map-range_with_len, map-range_with_len_more}
use Rattle.std.proofs.lemmas.Nat.{mod_below}
use Rattle.mc_box.specs.declared.event.Event.TheVariants.{Shift}
use Rattle.mc_box.specs.declared.event.Turn.{Turn}
use Rattle.mc_desk.specs.declared.limit.TheConstants.{REQUEST_LIMIT}
use Rattle.mc_laws.proofs.Sums.{total_plus, total_zero}
use Rattle.mc_live_settle.proofs.Owners.{count_interleaved, one_place, only_owner, weight_if}
use Rattle.mc_live_settle.specs.Laws.{OneHandKeepsOrder, OrdersHaveTheSame}
use Rattle.mc_live_settle.specs.Orders.{AreInterleaved, IsOrderOf, hand_from, hand_of, hands_for, hands_of}
use Rattle.mc_model.specs.Settles.{commands_of}
use Rattle.mc_model.specs.Shapes.{AreAllowed, is_allowed}
use Rattle.mc_model.specs.Worlds.{WorldState}
use Rattle.mc_phase.specs.Asked.{AreHandsFor, IsHandFor, hand_lists}
use Rattle.mc_rounds.proofs.Plays.{commands_both, count_both}
use Rattle.mc_seq.proofs.Segments.{both_there}
use Rattle.mc_slot_laws.proofs.Sums.{total_same}
use Rattle.mc_slot_laws.specs.Sums.{total}

-- ---- one operator

-- it gets all
all_dealt : (place : ℕ) (batch : List Turn) → hand_from 1 0 place batch ≡ batch
all_dealt place [] = refl
all_dealt place (turn ∷ batch) =
    ap (λ (b : Bool). cond b (turn ∷ hand_from 1 0 (place + 1) batch) (hand_from 1 0 (place + 1) batch)) (eq-eqb (place % 1) 0 (mod-one place))
    ∙ ap (λ (l : List Turn). turn ∷ l) (all_dealt (place + 1) batch)

pub one_hand_keeps_order : OneHandKeepsOrder
one_hand_keeps_order batch order is who =
    let are = is.each who in
    sym (only_owner are.owners (commands_of who order) are.count are.known)
    ∙ (are.each 0 (omega arith) ∙ ap (commands_of who) (all_dealt 0 batch))

-- ---- all operators

-- how many hands there are, and which
pub hands_count : (who operators : ℕ) (batch : List Turn) → length (hands_for who operators batch) ≡ operators
hands_count who operators batch = length-map (hands_of operators batch) (commands_of who) ∙ length-map-range_with_len (hand_of operators batch) 0 operators

pub hand_there : (who operators : ℕ) (batch : List Turn) (operator : ℕ) → operator < operators → get_or (hands_for who operators batch) operator [] ≡ commands_of who (hand_of operators batch operator)
hand_there who operators batch operator low =
    let many = length-map-range_with_len (hand_of operators batch) 0 operators in
    get_or-map (commands_of who) (hands_of operators batch) operator [] [] (omega (arith, low, many))
    ∙ ap (commands_of who) (get_or-map-range_with_len (hand_of operators batch) 0 operators operator operator [] low (omega arith))

-- ---- counts

-- what a turn counts among the commands of a box
abbrev weight_for : (Turn → Bool) → ℕ → Turn → ℕ
weight_for kind who turn = count_by kind (commands_of who (turn ∷ []))

first_counted : (kind : Turn → Bool) (who : ℕ) (turn : Turn) (turns : List Turn) → count_by kind (commands_of who (turn ∷ turns)) ≡ weight_for kind who turn + count_by kind (commands_of who turns)
first_counted kind who turn turns = ap (count_by kind) (commands_both who (turn ∷ []) turns) ∙ count_both kind (commands_of who (turn ∷ [])) (commands_of who turns)

counted_if : (here : Bool) (kind : Turn → Bool) (who : ℕ) (turn : Turn) (turns : List Turn) → count_by kind (commands_of who (cond here (turn ∷ turns) turns)) ≡ weight_if here (weight_for kind who turn) + count_by kind (commands_of who turns)
counted_if true kind who turn turns = first_counted kind who turn turns
counted_if false kind who turn turns = omega arith

-- all hands have as many commands of a kind for a box as the batch
count_dealt : (kind : Turn → Bool) (who operators place : ℕ) (batch : List Turn) → 0 < operators
    → total (λ (operator : ℕ). count_by kind (commands_of who (hand_from operators operator place batch))) operators ≡ count_by kind (commands_of who batch)
count_dealt kind who operators place [] some = total_zero operators
count_dealt kind who operators place (turn ∷ batch) some =
    let many = weight_for kind who turn in
    let later : ℕ → ℕ = λ operator. count_by kind (commands_of who (hand_from operators operator (place + 1) batch)) in
    let each = total_same (λ (operator : ℕ). count_by kind (commands_of who (hand_from operators operator place (turn ∷ batch)))) (λ (operator : ℕ). weight_if (place % operators == operator) many + later operator) operators
    (λ operator low. counted_if (place % operators == operator) kind who turn (hand_from operators operator (place + 1) batch)) in
    let parts = total_plus (λ (operator : ℕ). weight_if (place % operators == operator) many) later operators in
    let one = one_place operators (place % operators) many (mod_below place operators some) in
    let rest = count_dealt kind who operators (place + 1) batch some in
    let first = first_counted kind who turn batch in
    each ∙ (parts ∙ omega (arith, one, rest, first))

pub orders_have_the_same : OrdersHaveTheSame
orders_have_the_same operators batch order some is kind who =
    let lists = hands_for who operators batch in
    let many = hands_count who operators batch in
    count_interleaved kind lists (commands_of who order) (is.each who)
    ∙ (ap (total (λ (k : ℕ). count_by kind (get_or lists k []))) many
    ∙ (total_same (λ (k : ℕ). count_by kind (get_or lists k [])) (λ (k : ℕ). count_by kind (commands_of who (hand_of operators batch k))) operators (λ k low. ap (count_by kind) (hand_there who operators batch k low))
    ∙ count_dealt kind who operators 0 batch some))

-- ---- hands that may be asked for

-- what all of a batch pass, all of a hand pass
dealt_if : (here : Bool) (p : Turn → Bool) (turn : Turn) (turns : List Turn) → p turn ≡ true → list_all p turns ≡ true → list_all p (cond here (turn ∷ turns) turns) ≡ true
dealt_if true p turn turns one all = both_there (p turn) (list_all p turns) one all
dealt_if false p turn turns one all = all

dealt_pass : (p : Turn → Bool) (operators operator place : ℕ) (batch : List Turn) → list_all p batch ≡ true → list_all p (hand_from operators operator place batch) ≡ true
dealt_pass p operators operator place [] all = refl
dealt_pass p operators operator place (turn ∷ batch) all =
    let parts = and_parts (p turn) (list_all p batch) all in
    dealt_if (place % operators == operator) p turn (hand_from operators operator (place + 1) batch) parts.0 (dealt_pass p operators operator (place + 1) batch parts.1)

-- a hand is no longer than the batch
long_if : (here : Bool) (turn : Turn) (turns : List Turn) (most : ℕ) → length turns ≤ most → length (cond here (turn ∷ turns) turns) ≤ most + 1
long_if true turn turns most few = omega (arith, few)
long_if false turn turns most few = omega (arith, few)

dealt_few : (operators operator place : ℕ) (batch : List Turn) → length (hand_from operators operator place batch) ≤ length batch
dealt_few operators operator place [] = omega arith
dealt_few operators operator place (turn ∷ batch) =
    let one = long_if (place % operators == operator) turn (hand_from operators operator (place + 1) batch) (length batch) (dealt_few operators operator (place + 1) batch) in
    omega (arith, one)

all_mapped : (P : List Turn → Type 0) (f : ℕ → List Turn) (numbers : List ℕ) → ((number : ℕ) → P (f number)) → AllByRecursion P (map f numbers)
all_mapped P f [] each = tt
all_mapped P f (number ∷ numbers) each = (each number, all_mapped P f numbers each)

-- the hands of a batch that a world allows may be asked for
pub are_hands : (world : WorldState) (operators : ℕ) (batch : List Turn) → AreAllowed world batch → length batch < REQUEST_LIMIT → AreHandsFor world (hands_of operators batch)
are_hands world operators batch allowed few =
    all_mapped (IsHandFor world) (hand_of operators batch) (range_with_len 0 operators) (λ operator.
    let short = dealt_few operators operator 0 batch in
    record { allowed = dealt_pass (is_allowed world) operators operator 0 batch allowed; few = omega (arith, short, few) })

-- ---- dealing

dealt_more_if : (here : Bool) (turn : Turn) (turns : List Turn) → cond here (turn ∷ turns) turns ≡ cond here (turn ∷ []) [] ++ turns
dealt_more_if true turn turns = refl
dealt_more_if false turn turns = refl

-- the next command of a batch goes to a hand, or doesn't; the later ones follow
pub dealt_next : (operators operator place : ℕ) (batch : List Turn) (d : Turn) → place < length batch
    → hand_from operators operator place (drop place batch) ≡ cond (place % operators == operator) (get_or batch place d ∷ []) [] ++ hand_from operators operator (place + 1) (drop (place + 1) batch)
dealt_next operators operator place batch d within =
    let one : suc place ≡ place + 1 = omega arith in
    let parts : drop place batch ≡ get_or batch place d ∷ drop (place + 1) batch = drop-cons batch place d within ∙ ap (λ (n : ℕ). get_or batch place d ∷ drop n batch) one in
    ap (hand_from operators operator place) parts ∙ dealt_more_if (place % operators == operator) (get_or batch place d) (hand_from operators operator (place + 1) (drop (place + 1) batch))

-- so it is one more of the hand so far, where it goes there
pub hand_grows : (operators operator place : ℕ) (batch hand whole : List Turn) (d : Turn) → place < length batch → place % operators ≡ operator → hand ++ hand_from operators operator place (drop place batch) ≡ whole
    → (hand ++ get_or batch place d ∷ []) ++ hand_from operators operator (place + 1) (drop (place + 1) batch) ≡ whole
hand_grows operators operator place batch hand whole d within here so_far =
    append_assoc hand (get_or batch place d ∷ []) (hand_from operators operator (place + 1) (drop (place + 1) batch))
    ∙ (ap (λ (b : Bool). hand ++ (cond b (get_or batch place d ∷ []) [] ++ hand_from operators operator (place + 1) (drop (place + 1) batch))) (sym (eq-eqb (place % operators) operator here))
    ∙ (ap (λ (l : List Turn). hand ++ l) (sym (dealt_next operators operator place batch d within)) ∙ so_far))

pub hand_stays : (operators operator place : ℕ) (batch hand whole : List Turn) → place < length batch → place % operators ≢ operator → hand ++ hand_from operators operator place (drop place batch) ≡ whole
    → hand ++ hand_from operators operator (place + 1) (drop (place + 1) batch) ≡ whole
hand_stays operators operator place batch hand whole within other so_far =
    let d : Turn = record { who = 0; event = Shift } in
    ap (λ (b : Bool). hand ++ (cond b (get_or batch place d ∷ []) [] ++ hand_from operators operator (place + 1) (drop (place + 1) batch))) (sym (ne_eqb (place % operators) operator other))
    ∙ (ap (λ (l : List Turn). hand ++ l) (sym (dealt_next operators operator place batch d within)) ∙ so_far)

-- one hand more
pub hands_grow : (operators operator : ℕ) (batch : List Turn) (old new : List (Vec Turn Global)) (hand : Vec Turn Global) → hand_lists old ≡ map (hand_of operators batch) (range_with_len 0 operator) → new ≡ old ++ hand ∷ [] → hand.items ≡ hand_of operators batch operator
    → hand_lists new ≡ map (hand_of operators batch) (range_with_len 0 (operator + 1))
hands_grow operators operator batch old new hand so_far added is =
    ap hand_lists added
    ∙ (map-append (λ (v : Vec Turn Global). v.items) old (hand ∷ [])
    ∙ (ap (λ (lists : List (List Turn)). lists ++ hand.items ∷ []) so_far
    ∙ (ap (λ (l : List Turn). map (hand_of operators batch) (range_with_len 0 operator) ++ l ∷ []) is ∙ sym (map-range_with_len_more (hand_of operators batch) 0 operator operator (omega arith)))))

-- so there is a hand for each operator
pub hands_many : (operators : ℕ) (batch : List Turn) (hands : List (Vec Turn Global)) → hand_lists hands ≡ hands_of operators batch → length hands ≡ operators
hands_many operators batch hands are =
    sym (length-map hands (λ (v : Vec Turn Global). v.items))
    ∙ (ap (λ (lists : List (List Turn)). length lists) are ∙ length-map-range_with_len (hand_of operators batch) 0 operators)
