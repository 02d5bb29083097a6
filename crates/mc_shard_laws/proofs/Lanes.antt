-- Numbers in lanes: what was taken is a front of what was sent.
use Rattle.std.proofs.Common.{◌≡◌, ◌≢◌, inl, inr, ◌==◌, if◌then◌else◌, Bool, true, false, ℕ, suc, ◌+◌, ◌<◌, List, [], ◌∷◌, ◌++◌, length, Option, Some, None, append_assoc, refl, ap, sym, ◌∙◌, subst, arith}
use Rattle.std.specs.List.{slice_get}
use Rattle.std.proofs.lemmas.Bool.{cases_eq}
use Rattle.std.proofs.lemmas.Grind.{common_steps}
use Rattle.std.proofs.lemmas.List.{get_or-set_same, get_or-set_other}
use Rattle.mc_signal.specs.declared.Signal.{Signal}
use Rattle.mc_shard.specs.Journals.{AreAllAmong, AreNumbered, IsAmong, EntryState, items_at, sent_at, taken_at, taken_list}
use Rattle.mc_shard.specs.States.{AreNext, IsJournal, MayFollow, Places, ShardState, after_entry, count_at, none_reached, numbered, numbered_if, places_of, raised, raised_all, reached_at, step_in}
use Rattle.mc_shard_laws.specs.Together.{TakenIsFront}
use Rattle.mc_shard.proofs.Counts.{all_length, raised_length}
use Rattle.mc_shard.specs.declared.entry.AtEnd.{AtEnd}
use Rattle.mc_shard.specs.declared.entry.Numbered.{Numbered}
use Rattle.mc_shard.specs.declared.reached.Reached.{Reached}

-- ---- a front

pub number_above : (last : ℕ) (items : List Numbered) (item : Numbered) → AreNumbered last items → IsAmong items item → last < item.number
number_above last [] item are among = absurd among
number_above last (first ∷ items) item are among =
    let is : first.number ≡ last + 1 = are.0 in
    elim among [
      | inl same ↦
          let e : first.number ≡ item.number = ap (λ (i : Numbered). i.number) same in
          omega arith
      | inr later ↦
          let up : first.number < item.number = number_above first.number items item are.1 later in
          omega arith
    ]

pub taken_is_front : TakenIsFront
taken_is_front last [] sent are are_2 all = refl
taken_is_front last (t ∷ taken) [] are are_2 all = absurd (all t (inl refl))
taken_is_front last (t ∷ taken) (s ∷ sent) are are_2 all =
    let is : t.number ≡ last + 1 = are.0 in
    let is_2 : s.number ≡ last + 1 = are_2.0 in
    elim (all t (inl refl)) [
      | inl same ↦
          let numbers : s.number ≡ t.number = ap (λ (i : Numbered). i.number) same in
          let left : AreAllAmong taken sent = λ item among. elim (all item (inr among)) [
            | inl e ↦
                let up : t.number < item.number = number_above t.number taken item are.1 among in
                let at : s.number ≡ item.number = ap (λ (i : Numbered). i.number) e in
                absurd (omega arith)
            | inr later ↦ later
          ] in
          ap (λ (l : List Numbered). t ∷ l) (taken_is_front t.number taken sent are.1 (subst (λ (n : ℕ). AreNumbered n sent) numbers are_2.1) left)
          ∙ ap (λ (x : Numbered). x ∷ sent) (sym same)
      | inr later ↦
          let up : s.number < t.number = number_above s.number sent t are_2.1 later in
          absurd (omega arith)
    ]

-- ---- counts

pub same_test : (a b : ℕ) → a ≡ b → (a == b) ≡ true
same_test a b same = grind (arith, common_steps)

pub other_test : (a b : ℕ) → a ≢ b → (a == b) ≡ false
other_test a b apart = grind (arith, common_steps)

pub chosen : {X : Type 0} (test : Bool) (x : X) (xs : List X) → test ≡ true → (if test then x ∷ [] else []) ++ xs ≡ x ∷ xs
chosen true x xs is = refl
chosen false x xs is = absurd (cc)

pub passed : {X : Type 0} (test : Bool) (x : X) (xs : List X) → test ≡ false → (if test then x ∷ [] else []) ++ xs ≡ xs
passed true x xs is = absurd (cc)
passed false x xs is = refl

pub items_here : (end : ℕ) (one : AtEnd) (rest : List AtEnd) → one.end ≡ end → items_at end (one ∷ rest) ≡ one.item ∷ items_at end rest
items_here end one rest same = chosen (one.end == end) one.item (items_at end rest) (same_test one.end end same)

pub items_away : (end : ℕ) (one : AtEnd) (rest : List AtEnd) → one.end ≢ end → items_at end (one ∷ rest) ≡ items_at end rest
items_away end one rest apart = passed (one.end == end) one.item (items_at end rest) (other_test one.end end apart)

pub items_append : (end : ℕ) (xs ys : List AtEnd) → items_at end (xs ++ ys) ≡ items_at end xs ++ items_at end ys
items_append end [] ys = refl
items_append end (one ∷ xs) ys =
    ap (λ (l : List Numbered). (if one.end == end then one.item ∷ [] else []) ++ l) (items_append end xs ys)
    ∙ sym (append_assoc (if one.end == end then one.item ∷ [] else []) (items_at end xs) (items_at end ys))

-- how far a lane is after this signal
abbrev pub with_one : Reached → AtEnd → Reached
with_one last one = record { count = last.count + 1; digest = one.item.digest }

pub raised_here : (lanes : List Reached) (end : ℕ) (one : AtEnd) → one.end ≡ end → end < length lanes → reached_at (raised lanes one) end ≡ with_one (reached_at lanes end) one
raised_here lanes end one same =
    subst (λ (e : ℕ). e < length lanes → reached_at (raised lanes one) e ≡ with_one (reached_at lanes e) one) same
    (λ inside. get_or-set_same lanes one.end (with_one (reached_at lanes one.end) one) none_reached inside)

pub raised_away : (lanes : List Reached) (end : ℕ) (one : AtEnd) → one.end ≢ end → reached_at (raised lanes one) end ≡ reached_at lanes end
raised_away lanes end one apart = get_or-set_other lanes one.end end (with_one (reached_at lanes one.end) one) none_reached (λ same. apart (sym same))

pub inside_raised : (lanes : List Reached) (end : ℕ) (one : AtEnd) → end < length lanes → end < length (raised lanes one)
inside_raised lanes end one inside =
    let same : length (raised lanes one) ≡ length lanes = raised_length lanes one in
    omega arith

pub count_all : (xs : List AtEnd) (lanes : List Reached) (end : ℕ) → end < length lanes → count_at (raised_all lanes xs) end ≡ count_at lanes end + length (items_at end xs)
count_all [] lanes end inside = omega arith
count_all (one ∷ xs) lanes end inside =
    let rest : count_at (raised_all (raised lanes one) xs) end ≡ count_at (raised lanes one) end + length (items_at end xs) = count_all xs (raised lanes one) end (inside_raised lanes end one inside) in
    elim (cases_eq one.end end) [
      | inl same ↦
          let up : count_at (raised lanes one) end ≡ count_at lanes end + 1 = ap (λ (r : Reached). r.count) (raised_here lanes end one same inside) in
          let long : length (items_at end (one ∷ xs)) ≡ suc (length (items_at end xs)) = ap (λ (l : List Numbered). length l) (items_here end one xs same) in
          omega arith
      | inr apart ↦
          let stays : count_at (raised lanes one) end ≡ count_at lanes end = ap (λ (r : Reached). r.count) (raised_away lanes end one apart) in
          let long : length (items_at end (one ∷ xs)) ≡ length (items_at end xs) = ap (λ (l : List Numbered). length l) (items_away end one xs apart) in
          omega arith
    ]

-- ---- numbers

numbered_append : (last middle : ℕ) (xs ys : List Numbered) → AreNumbered last xs → middle ≡ last + length xs → AreNumbered middle ys → AreNumbered last (xs ++ ys)
numbered_append last middle [] ys are is are_2 =
    let same : middle ≡ last = omega arith in
    subst (λ (n : ℕ). AreNumbered n ys) same are_2
numbered_append last middle (x ∷ xs) ys are is are_2 =
    let first : x.number ≡ last + 1 = are.0 in
    let long : length (x ∷ xs) ≡ suc (length xs) = refl in
    (are.0, numbered_append x.number middle xs ys are.1 (omega arith) are_2)

next_numbered : (xs : List AtEnd) (lanes : List Reached) (end : ℕ) → end < length lanes → AreNext lanes xs → AreNumbered (count_at lanes end) (items_at end xs)
next_numbered [] lanes end inside next = tt
next_numbered (one ∷ xs) lanes end inside next =
    let rest : AreNumbered (count_at (raised lanes one) end) (items_at end xs) = next_numbered xs (raised lanes one) end (inside_raised lanes end one inside) next.1 in
    let is : one.item.number ≡ count_at lanes one.end + 1 = next.0.number in
    elim (cases_eq one.end end) [
      | inl same ↦
          let up : count_at (raised lanes one) end ≡ count_at lanes end + 1 = ap (λ (r : Reached). r.count) (raised_here lanes end one same inside) in
          let here : one.item.number ≡ count_at lanes end + 1 = is ∙ ap (λ (e : ℕ). count_at lanes e + 1) same in
          subst (λ (l : List Numbered). AreNumbered (count_at lanes end) l) (sym (items_here end one xs same))
          (here, subst (λ (n : ℕ). AreNumbered n (items_at end xs)) (up ∙ sym here) rest)
      | inr apart ↦
          subst (λ (l : List Numbered). AreNumbered (count_at lanes end) l) (sym (items_away end one xs apart))
          (subst (λ (n : ℕ). AreNumbered n (items_at end xs)) (ap (λ (r : Reached). r.count) (raised_away lanes end one apart)) rest)
    ]

next_if : (o : Option (ℕ × ℕ)) (stamp : ℕ) (lanes : List Reached) (signal : Signal) (rest : List AtEnd) → AreNext (raised_all lanes (numbered_if o stamp lanes signal)) rest → AreNext lanes (numbered_if o stamp lanes signal ++ rest)
next_if None stamp lanes signal rest next = next
next_if (Some place) stamp lanes signal rest next = (record { number = refl; digest = refl }, next)

pub numbered_next : (sent : List (ℕ × Signal)) (places : List (ℕ × ℕ)) (stamp : ℕ) (lanes : List Reached) → AreNext lanes (numbered places stamp lanes sent)
numbered_next [] places stamp lanes = tt
numbered_next (sending ∷ sent) places stamp lanes =
    let here = numbered_if (slice_get places sending.0) stamp lanes sending.1 in
    next_if (slice_get places sending.0) stamp lanes sending.1 (numbered places stamp (raised_all lanes here) sent)
    (numbered_next sent places stamp (raised_all lanes here))

-- ---- journals

pub sends_next : (places : Places) (a : ShardState) (entry : EntryState) → MayFollow places a entry → AreNext a.sent entry.sent
sends_next places a entry follows =
    subst (λ (l : List AtEnd). AreNext a.sent l) (sym follows.sent) (numbered_next (step_in a entry).sent (places_of places entry.who) entry.stamp a.sent)

pub inside_all : (lanes : List Reached) (xs : List AtEnd) (end : ℕ) → end < length lanes → end < length (raised_all lanes xs)
inside_all lanes xs end inside =
    let same : length (raised_all lanes xs) ≡ length lanes = all_length xs lanes in
    omega arith

pub sent_numbered : (entries : List EntryState) (places : Places) (a : ShardState) (end : ℕ) → end < length a.sent → IsJournal places a entries → AreNumbered (count_at a.sent end) (sent_at end entries)
sent_numbered [] places a end inside journal = tt
sent_numbered (entry ∷ entries) places a end inside journal =
    numbered_append (count_at a.sent end) (count_at (raised_all a.sent entry.sent) end) (items_at end entry.sent) (sent_at end entries)
    (next_numbered entry.sent a.sent end inside (sends_next places a entry journal.0))
    (count_all entry.sent a.sent end inside)
    (sent_numbered entries places (after_entry a entry) end (inside_all a.sent entry.sent end inside) journal.1)

pub taken_numbered : (entries : List EntryState) (places : Places) (a : ShardState) (end : ℕ) → end < length a.taken → IsJournal places a entries → AreNumbered (count_at a.taken end) (taken_at end entries)
taken_numbered [] places a end inside journal = tt
taken_numbered (entry ∷ entries) places a end inside journal =
    numbered_append (count_at a.taken end) (count_at (raised_all a.taken (taken_list entry.taken)) end) (items_at end (taken_list entry.taken)) (taken_at end entries)
    (next_numbered (taken_list entry.taken) a.taken end inside journal.0.next)
    (count_all (taken_list entry.taken) a.taken end inside)
    (taken_numbered entries places (after_entry a entry) end (inside_all a.taken (taken_list entry.taken) end inside) journal.1)
