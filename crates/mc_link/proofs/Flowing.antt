-- The four parts of what two live slots send, put together.
use Rattle.std.proofs.Common.{◌≡◌, ◌+◌, ◌≤◌, ℕ, Option, Some, List, ◌++◌, length, map, refl, ap, subst, ◌∙◌, append_assoc, arith}
use Rattle.std.proofs.lemmas.List.{map-append}
use Rattle.mc_signal.specs.declared.Descriptor.{Descriptor}
use Rattle.mc_signal.specs.declared.Signal.{Signal}
use Rattle.mc_slot.specs.Moves.{slot_send_all}
use Rattle.mc_slot.specs.Sending.{pair_of}
use Rattle.mc_slot.specs.declared.Slot.{Slot}
use Rattle.mc_link.specs.LinkTurn.{selector_due, flow, with_number, descriptor_due, pass_descriptor, sent_by_first, sent_by_second}
use Rattle.mc_link.proofs.Sides.{first_of_four, second_of_four, four_length, numbered_first, numbered_second, sent_both}

-- which selector a slot passes on, after the descriptors
choosing_same : (slot other next heard : Slot) → next.got ≡ slot.got → next.sel_out ≡ slot.sel_out → heard.sel_in ≡ other.sel_in → selector_due next heard ≡ selector_due slot other
choosing_same slot other next heard got sel_out sel_in = rw (got, sel_out, sel_in) refl

-- the first slot after both its parts
pub first_flows : (a b a_next b_next a_last : Slot) → a_next.got ≡ a.got → a_next.sel_out ≡ a.sel_out → b_next.sel_in ≡ b.sel_in
    → slot_send_all a (descriptor_due a b) ≡ Some a_next → slot_send_all a_next (selector_due a_next b_next) ≡ Some a_last
    → slot_send_all a (sent_by_first (flow a b)) ≡ Some a_last
first_flows a b a_next b_next a_last got sel_out sel_in one two =
    let chosen : slot_send_all a_next (selector_due a b) ≡ Some a_last =
    subst (λ (l : List Signal). slot_send_all a_next l ≡ Some a_last) (choosing_same a b a_next b_next got sel_out sel_in) two in
    ap (slot_send_all a) (first_of_four (descriptor_due a b) (descriptor_due b a) (selector_due a b) (selector_due b a)) ∙ sent_both a a_next a_last (descriptor_due a b) (selector_due a b) one chosen

-- the second slot after both its parts
pub second_flows : (a b a_next b_next a_last b_last : Slot) → a_next.got ≡ a.got → b_next.got ≡ b.got → b_next.sel_out ≡ b.sel_out
    → a_next.sel_in ≡ a.sel_in → a_last.sel_in ≡ a_next.sel_in
    → slot_send_all b (pass_descriptor b.state b.sent a_next.got) ≡ Some b_next → slot_send_all b_next (selector_due b_next a_last) ≡ Some b_last
    → slot_send_all b (sent_by_second (flow a b)) ≡ Some b_last
second_flows a b a_next b_next a_last b_last a_got got sel_out a_sel_in last_sel_in one two =
    let passed : slot_send_all b (descriptor_due b a) ≡ Some b_next =
    subst (λ (o : Option Descriptor). slot_send_all b (pass_descriptor b.state b.sent o) ≡ Some b_next) a_got one in
    let chosen : slot_send_all b_next (selector_due b a) ≡ Some b_last =
    subst (λ (l : List Signal). slot_send_all b_next l ≡ Some b_last) (choosing_same b a b_next a_last got sel_out (last_sel_in ∙ a_sel_in)) two in
    ap (slot_send_all b) (second_of_four (descriptor_due a b) (descriptor_due b a) (selector_due a b) (selector_due b a)) ∙ sent_both b b_next b_last (descriptor_due b a) (selector_due b a) passed chosen

-- four parts, with the local numbers of their slots
numbered_four : (an bn : ℕ) (a b : Slot)
    → map (with_number an bn) (flow a b)
    ≡ map (pair_of an) (descriptor_due a b) ++ (map (pair_of bn) (descriptor_due b a) ++ (map (pair_of an) (selector_due a b) ++ map (pair_of bn) (selector_due b a)))
numbered_four an bn a b = simp (map-append, numbered_first an bn, numbered_second an bn)

-- what is sent after each of the four parts
pub flow_sends : (an bn : ℕ) (a b a_next b_next a_last : Slot) (none one two three four : List (ℕ × Signal))
    → a_next.got ≡ a.got → a_next.sel_out ≡ a.sel_out → a_next.sel_in ≡ a.sel_in → b_next.got ≡ b.got → b_next.sel_out ≡ b.sel_out → b_next.sel_in ≡ b.sel_in
    → a_last.sel_in ≡ a_next.sel_in
    → one ≡ none ++ map (pair_of an) (descriptor_due a b)
    → two ≡ one ++ map (pair_of bn) (pass_descriptor b.state b.sent a_next.got)
    → three ≡ two ++ map (pair_of an) (selector_due a_next b_next)
    → four ≡ three ++ map (pair_of bn) (selector_due b_next a_last)
    → four ≡ none ++ map (with_number an bn) (flow a b)
flow_sends an bn a b a_next b_next a_last none one two three four a_got a_sel_out a_sel_in b_got b_sel_out b_sel_in last_sel_in e1 e2 e3 e4 =
    let passed : pass_descriptor b.state b.sent a_next.got ≡ descriptor_due b a = ap (pass_descriptor b.state b.sent) a_got in
    let first : selector_due a_next b_next ≡ selector_due a b = choosing_same a b a_next b_next a_got a_sel_out b_sel_in in
    let second : selector_due b_next a_last ≡ selector_due b a = choosing_same b a b_next a_last b_got b_sel_out (last_sel_in ∙ a_sel_in) in
    rw (e4, e3, e2, e1, passed, first, second, numbered_four an bn a b) (simp append_assoc)

-- where all four parts have room, the first has it
pub first_room : (a b : Slot) (none limit : ℕ) → none + length (flow a b) ≤ limit → none + length (descriptor_due a b) ≤ limit
first_room a b none limit fits = omega (arith, fits, four_length (descriptor_due a b) (descriptor_due b a) (selector_due a b) (selector_due b a))

-- then the second
pub second_room : (a b a_next : Slot) (none one limit : ℕ) → a_next.got ≡ a.got → one ≡ none + length (descriptor_due a b) → none + length (flow a b) ≤ limit
    → one + length (pass_descriptor b.state b.sent a_next.got) ≤ limit
second_room a b a_next none one limit a_got e1 fits =
    let passed : length (pass_descriptor b.state b.sent a_next.got) ≡ length (descriptor_due b a) = ap (λ (o : Option Descriptor). length (pass_descriptor b.state b.sent o)) a_got in
    omega (arith, fits, e1, passed, four_length (descriptor_due a b) (descriptor_due b a) (selector_due a b) (selector_due b a))

-- then the third
pub third_room : (a b a_next b_next : Slot) (none one two limit : ℕ) → a_next.got ≡ a.got → a_next.sel_out ≡ a.sel_out → b_next.sel_in ≡ b.sel_in
    → one ≡ none + length (descriptor_due a b) → two ≡ one + length (pass_descriptor b.state b.sent a_next.got)
    → none + length (flow a b) ≤ limit → two + length (selector_due a_next b_next) ≤ limit
third_room a b a_next b_next none one two limit a_got a_sel_out b_sel_in e1 e2 fits =
    let passed : length (pass_descriptor b.state b.sent a_next.got) ≡ length (descriptor_due b a) = ap (λ (o : Option Descriptor). length (pass_descriptor b.state b.sent o)) a_got in
    let first : length (selector_due a_next b_next) ≡ length (selector_due a b) = ap (λ (l : List Signal). length l) (choosing_same a b a_next b_next a_got a_sel_out b_sel_in) in
    omega (arith, fits, e1, e2, passed, first, four_length (descriptor_due a b) (descriptor_due b a) (selector_due a b) (selector_due b a))

-- how many signals the four parts are
pub flow_length : (a b a_next b_next a_last : Slot) (none one two three four : ℕ)
    → a_next.got ≡ a.got → a_next.sel_out ≡ a.sel_out → a_next.sel_in ≡ a.sel_in → b_next.got ≡ b.got → b_next.sel_out ≡ b.sel_out → b_next.sel_in ≡ b.sel_in
    → a_last.sel_in ≡ a_next.sel_in
    → one ≡ none + length (descriptor_due a b)
    → two ≡ one + length (pass_descriptor b.state b.sent a_next.got)
    → three ≡ two + length (selector_due a_next b_next)
    → four ≡ three + length (selector_due b_next a_last)
    → four ≡ none + length (flow a b)
flow_length a b a_next b_next a_last none one two three four a_got a_sel_out a_sel_in b_got b_sel_out b_sel_in last_sel_in e1 e2 e3 e4 =
    let passed : length (pass_descriptor b.state b.sent a_next.got) ≡ length (descriptor_due b a) = ap (λ (o : Option Descriptor). length (pass_descriptor b.state b.sent o)) a_got in
    let first : length (selector_due a_next b_next) ≡ length (selector_due a b) = ap (λ (l : List Signal). length l) (choosing_same a b a_next b_next a_got a_sel_out b_sel_in) in
    let second : length (selector_due b_next a_last) ≡ length (selector_due b a) =
    ap (λ (l : List Signal). length l) (choosing_same b a b_next a_last b_got b_sel_out (last_sel_in ∙ a_sel_in)) in
    omega (arith, e1, e2, e3, e4, passed, first, second, four_length (descriptor_due a b) (descriptor_due b a) (selector_due a b) (selector_due b a))

-- and the fourth
pub fourth_room : (a b a_next b_next a_last : Slot) (none one two three limit : ℕ)
    → a_next.got ≡ a.got → a_next.sel_out ≡ a.sel_out → a_next.sel_in ≡ a.sel_in → b_next.got ≡ b.got → b_next.sel_out ≡ b.sel_out → b_next.sel_in ≡ b.sel_in
    → a_last.sel_in ≡ a_next.sel_in
    → one ≡ none + length (descriptor_due a b)
    → two ≡ one + length (pass_descriptor b.state b.sent a_next.got)
    → three ≡ two + length (selector_due a_next b_next)
    → none + length (flow a b) ≤ limit → three + length (selector_due b_next a_last) ≤ limit
fourth_room a b a_next b_next a_last none one two three limit a_got a_sel_out a_sel_in b_got b_sel_out b_sel_in last_sel_in e1 e2 e3 fits =
    let all = flow_length a b a_next b_next a_last none one two three (three + length (selector_due b_next a_last)) a_got a_sel_out a_sel_in b_got b_sel_out b_sel_in last_sel_in e1 e2 e3 refl in
    omega (arith, fits, all)
