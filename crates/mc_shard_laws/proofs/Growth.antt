-- Journals grow, and a quiet cut stays quiet.
use Rattle.std.proofs.Common.{length, ◌+◌, ◌≤◌, ◌≡◌, ◌⊎◌, inl, inr, is_some, true, ℕ, zero, suc, ◌<◌, List, [], ◌∷◌, ◌++◌, Option, Some, None, append_assoc, refl, ap, sym, ◌∙◌, subst, arith, drop}
use Rattle.std.specs.List.{AllByRecursion, slice_get}
use Rattle.std.proofs.lemmas.Bool.{cases_eq}
use Rattle.mc_signal.specs.declared.Signal.{Signal}
use Rattle.mc_shard_laws.specs.Growth.{ComesFrom, IsQuietCut, JournalsGrow, JournalsSplit, LeadsOn, QuietStays, TakesOne}
use Rattle.mc_shard.specs.Journals.{AreNumbered, IsAmong, EntryState, items_at, sent_at, taken_at, taken_list}
use Rattle.mc_shard.specs.States.{IsAbove, IsJournal, MayFollow, Places, ShardState, after_entry, count_at, numbered, numbered_if, places_of, raised_all, state_after, step_in}
use Rattle.mc_shard_laws.specs.Together.{Journalled, TakenFromCut}
use Rattle.mc_shard.specs.declared.entry.AtEnd.{AtEnd}
use Rattle.mc_shard.specs.declared.entry.Numbered.{Numbered}
use Rattle.mc_shard.specs.declared.reached.Reached.{Reached}
use Rattle.mc_shard_laws.proofs.Lanes.{items_away, items_here, number_above, taken_numbered, taken_is_front}

pub journals_grow : JournalsGrow
journals_grow places first [] entry journal follows = ((follows, tt), refl)
journals_grow places first (one ∷ entries) entry journal follows =
    let rest = journals_grow places (after_entry first one) entries entry journal.1 follows in
    ((journal.0, rest.0), rest.1)

pub journals_split : JournalsSplit
journals_split places first [] more journal = (tt, journal, refl)
journals_split places first (one ∷ entries) more journal =
    let rest = journals_split places (after_entry first one) entries more journal.1 in
    ((journal.0, rest.0), rest.1, rest.2)

-- ---- what one entry says alone

-- what is sent has the entry's stamp, and what is taken has one below it
record Fine (entry : EntryState) : Type 0 where
  above : IsAbove entry.taken entry.stamp
  stamps : AllByRecursion (λ (one : AtEnd). one.item.stamp ≡ entry.stamp) entry.sent

stamps_if : (o : Option (ℕ × ℕ)) (stamp : ℕ) (lanes : List Reached) (signal : Signal) (rest : List AtEnd) → AllByRecursion (λ (one : AtEnd). one.item.stamp ≡ stamp) rest
    → AllByRecursion (λ (one : AtEnd). one.item.stamp ≡ stamp) (numbered_if o stamp lanes signal ++ rest)
stamps_if None stamp lanes signal rest all = all
stamps_if (Some place) stamp lanes signal rest all = (refl, all)

numbered_stamps : (sent : List (ℕ × Signal)) (places : List (ℕ × ℕ)) (stamp : ℕ) (lanes : List Reached) → AllByRecursion (λ (one : AtEnd). one.item.stamp ≡ stamp) (numbered places stamp lanes sent)
numbered_stamps [] places stamp lanes = tt
numbered_stamps (sending ∷ sent) places stamp lanes =
    let here = numbered_if (slice_get places sending.0) stamp lanes sending.1 in
    stamps_if (slice_get places sending.0) stamp lanes sending.1 (numbered places stamp (raised_all lanes here) sent) (numbered_stamps sent places stamp (raised_all lanes here))

fine : (places : Places) (a : ShardState) (entry : EntryState) → MayFollow places a entry → Fine entry
fine places a entry follows = record {
  above = follows.above;
  stamps = subst (λ (l : List AtEnd). AllByRecursion (λ (one : AtEnd). one.item.stamp ≡ entry.stamp) l) (sym follows.sent) (numbered_stamps (step_in a entry).sent (places_of places entry.who) entry.stamp a.sent);
}

all_fine : (entries : List EntryState) (places : Places) (a : ShardState) → IsJournal places a entries → AllByRecursion Fine entries
all_fine [] places a journal = tt
all_fine (entry ∷ entries) places a journal = (fine places a entry journal.0, all_fine entries places (after_entry a entry) journal.1)

-- ---- members

abbrev IsIn : List EntryState → EntryState → Type 0
IsIn [] entry = ⊥
IsIn (first ∷ entries) entry = (first ≡ entry) ⊎ IsIn entries entry

all_in : (P : EntryState → Type 0) (entries : List EntryState) (entry : EntryState) → AllByRecursion P entries → IsIn entries entry → P entry
all_in P [] entry all is = absurd is
all_in P (first ∷ entries) entry all is = elim is [
  | inl same ↦ subst P same all.0
  | inr later ↦ all_in P entries entry all.1 later
]

among_left : (xs ys : List Numbered) (x : Numbered) → IsAmong xs x → IsAmong (xs ++ ys) x
among_left [] ys x is = absurd is
among_left (y ∷ xs) ys x is = elim is [
  | inl same ↦ inl same
  | inr later ↦ inr (among_left xs ys x later)
]

pub among_right : (xs ys : List Numbered) (x : Numbered) → IsAmong ys x → IsAmong (xs ++ ys) x
among_right [] ys x is = is
among_right (y ∷ xs) ys x is = inr (among_right xs ys x is)

pub among_split : (xs ys : List Numbered) (x : Numbered) → IsAmong (xs ++ ys) x → IsAmong xs x ⊎ IsAmong ys x
among_split [] ys x is = inr is
among_split (y ∷ xs) ys x is = elim is [
  | inl same ↦ inl (inl same)
  | inr later ↦ elim (among_split xs ys x later) [
    | inl here ↦ inl (inr here)
    | inr there ↦ inr there
  ]
]

-- of numbered signals a later one has a greater number
apart : (last : ℕ) (xs ys : List Numbered) (x y : Numbered) → AreNumbered last (xs ++ ys) → IsAmong xs x → IsAmong ys y → x.number < y.number
apart last [] ys x y are one two = absurd one
apart last (first ∷ xs) ys x y are one two = elim one [
  | inl same ↦
      let up : first.number < y.number = number_above first.number (xs ++ ys) y are.1 (among_right xs ys y two) in
      subst (λ (i : Numbered). i.number < y.number) same up
  | inr later ↦ apart first.number xs ys x y are.1 later two
]

taken_append : (end : ℕ) (entries more : List EntryState) → taken_at end (entries ++ more) ≡ taken_at end entries ++ taken_at end more
taken_append end [] more = refl
taken_append end (entry ∷ entries) more =
    ap (λ (l : List Numbered). items_at end (taken_list entry.taken) ++ l) (taken_append end entries more)
    ∙ sym (append_assoc (items_at end (taken_list entry.taken)) (taken_at end entries) (taken_at end more))

pub sent_append : (end : ℕ) (entries more : List EntryState) → sent_at end (entries ++ more) ≡ sent_at end entries ++ sent_at end more
sent_append end [] more = refl
sent_append end (entry ∷ entries) more =
    ap (λ (l : List Numbered). items_at end entry.sent ++ l) (sent_append end entries more)
    ∙ sym (append_assoc (items_at end entry.sent) (sent_at end entries) (sent_at end more))

-- what an entry takes
takes_it : (entries : List EntryState) (entry : EntryState) (one : AtEnd) → IsIn entries entry → entry.taken ≡ Some one → IsAmong (taken_at one.end entries) one.item
takes_it [] entry one is takes = absurd is
takes_it (first ∷ entries) entry one is takes = elim is [
  | inl same ↦
      let here : items_at one.end (taken_list first.taken) ≡ one.item ∷ [] =
      ap (λ (n : EntryState). items_at one.end (taken_list n.taken)) same ∙ (ap (λ (t : Option AtEnd). items_at one.end (taken_list t)) takes ∙ items_here one.end one [] refl) in
      subst (λ (l : List Numbered). IsAmong (l ++ taken_at one.end entries) one.item) (sym here) (inl refl)
  | inr later ↦ among_right (items_at one.end (taken_list first.taken)) (taken_at one.end entries) one.item (takes_it entries entry one later takes)
]

-- who sent it
item_stamp : (end stamp : ℕ) (sent : List AtEnd) (item : Numbered) → AllByRecursion (λ (one : AtEnd). one.item.stamp ≡ stamp) sent → IsAmong (items_at end sent) item → item.stamp ≡ stamp
item_stamp end stamp [] item all is = absurd is
item_stamp end stamp (one ∷ sent) item all is = elim (cases_eq one.end end) [
  | inl same ↦ elim (subst (λ (l : List Numbered). IsAmong l item) (items_here end one sent same) is) [
    | inl it ↦ ap (λ (i : Numbered). i.stamp) (sym it) ∙ all.0
    | inr later ↦ item_stamp end stamp sent item all.1 later
  ]
  | inr away ↦ item_stamp end stamp sent item all.1 (subst (λ (l : List Numbered). IsAmong l item) (items_away end one sent away) is)
]

sender_of : (end : ℕ) (entries : List EntryState) (item : Numbered) → AllByRecursion Fine entries → IsAmong (sent_at end entries) item → (entry : EntryState) × IsIn entries entry × (item.stamp ≡ entry.stamp)
sender_of end [] item all is = absurd is
sender_of end (entry ∷ entries) item all is = elim (among_split (items_at end entry.sent) (sent_at end entries) item is) [
  | inl here ↦ (entry, inl refl, item_stamp end entry.stamp entry.sent item all.0.stamps here)
  | inr there ↦
      let it = sender_of end entries item all.1 there in
      (it.0, inr it.1, it.2)
]

-- ---- none is the first after a quiet cut

taken_one : (o : Option AtEnd) → is_some o ≡ true → (one : AtEnd) × (o ≡ Some one)
taken_one None is = absurd (cc)
taken_one (Some one) is = (one, refl)

after_fine : (shards : ℕ → Journalled) (before after : ℕ → List EntryState) → LeadsOn shards before after → (shard : ℕ) → AllByRecursion Fine (after shard)
after_fine shards before after leads shard =
    let whole : IsJournal (shards shard).places (shards shard).first (before shard ++ after shard) = subst (λ (l : List EntryState). IsJournal (shards shard).places (shards shard).first l) (leads.parts shard) (leads.journals shard) in
    let split = journals_split (shards shard).places (shards shard).first (before shard) (after shard) whole in
    all_fine (after shard) (shards shard).places (state_after (shards shard).first (before shard)) split.1

above_it : (o : Option AtEnd) (one : AtEnd) (stamp : ℕ) → o ≡ Some one → IsAbove o stamp → one.item.stamp < stamp
above_it o one stamp is above = subst (λ (t : Option AtEnd). IsAbove t stamp) is above

none_below : (n : ℕ) (shards : ℕ → Journalled) (before after : ℕ → List EntryState) → LeadsOn shards before after → IsQuietCut shards before → ((shard : ℕ) → AllByRecursion TakesOne (after shard))
    → (shard : ℕ) (entry : EntryState) → IsIn (after shard) entry → entry.stamp < n → ⊥
none_below zero shards before after leads quiet takes shard entry is below = omega arith
none_below (suc n) shards before after leads quiet takes shard entry is below =
    let got = taken_one entry.taken (all_in TakesOne (after shard) entry (takes shard) is) in
    let one : AtEnd = got.0 in
    let item : Numbered = one.item in
    let late : IsAmong (taken_at one.end (after shard)) item = takes_it (after shard) entry one is got.1 in
    let both : taken_at one.end (shards shard).journal ≡ taken_at one.end (before shard) ++ taken_at one.end (after shard) =
    ap (λ (l : List EntryState). taken_at one.end l) (leads.parts shard) ∙ taken_append one.end (before shard) (after shard) in
    let taken : IsAmong (taken_at one.end (shards shard).journal) item =
    subst (λ (l : List Numbered). IsAmong l item) (sym both) (among_right (taken_at one.end (before shard)) (taken_at one.end (after shard)) item late) in
    let c : ComesFrom shards shard one.end = leads.joined shard one.end item taken in
    let sends : sent_at c.out (shards c.from).journal ≡ sent_at c.out (before c.from) ++ sent_at c.out (after c.from) =
    ap (λ (l : List EntryState). sent_at c.out l) (leads.parts c.from) ∙ sent_append c.out (before c.from) (after c.from) in
    let was_sent : IsAmong (sent_at c.out (before c.from) ++ sent_at c.out (after c.from)) item = subst (λ (l : List Numbered). IsAmong l item) sends (c.has_sending item taken) in
    elim (among_split (sent_at c.out (before c.from)) (sent_at c.out (after c.from)) item was_sent) [
      | inl early ↦
          let had : IsAmong (taken_at one.end (before shard)) item = subst (λ (l : List Numbered). IsAmong l item) (sym (quiet shard one.end c)) early in
          let are : AreNumbered (count_at (shards shard).first.taken one.end) (taken_at one.end (before shard) ++ taken_at one.end (after shard)) =
          subst (λ (l : List Numbered). AreNumbered (count_at (shards shard).first.taken one.end) l) both
          (taken_numbered (shards shard).journal (shards shard).places (shards shard).first one.end c.into_there (leads.journals shard)) in
          let up : item.number < item.number = apart (count_at (shards shard).first.taken one.end) (taken_at one.end (before shard)) (taken_at one.end (after shard)) item item are had late in
          omega arith
      | inr there ↦
          let sender = sender_of c.out (after c.from) item (after_fine shards before after leads c.from) there in
          let mine : Fine entry = all_in Fine (after shard) entry (after_fine shards before after leads shard) is in
          let lower : item.stamp < entry.stamp = above_it entry.taken one entry.stamp got.1 mine.above in
          let same : item.stamp ≡ sender.0.stamp = sender.2 in
          none_below n shards before after leads quiet takes c.from sender.0 sender.1 (omega arith)
    ]

empty_if : (entries : List EntryState) → ((entry : EntryState) → IsIn entries entry → ⊥) → entries ≡ []
empty_if [] none = refl
empty_if (entry ∷ entries) none = absurd (none entry (inl refl))

pub quiet_stays : QuietStays
quiet_stays shards before after leads quiet takes shard =
    empty_if (after shard) (λ entry is.
    let below : entry.stamp < suc entry.stamp = omega arith in
    none_below (suc entry.stamp) shards before after leads quiet takes shard entry is below)

-- ---- cuts

drop_numbered : (k last : ℕ) (sent : List Numbered) → k ≤ length sent → AreNumbered last sent → AreNumbered (last + k) (drop k sent)
drop_numbered zero last sent most are =
    let same : last ≡ last + 0 = omega arith in
    subst (λ (n : ℕ). AreNumbered n sent) same are
drop_numbered (suc k) last [] most are = absurd (omega arith)
drop_numbered (suc k) last (s ∷ sent) most are =
    let is : s.number ≡ last + 1 = are.0 in
    let same : s.number + k ≡ last + suc k = omega arith in
    subst (λ (n : ℕ). AreNumbered n (drop k sent)) same (drop_numbered k s.number sent (omega arith) are.1)

among_drop : (k last : ℕ) (sent : List Numbered) (item : Numbered) → AreNumbered last sent → last + k < item.number → IsAmong sent item → IsAmong (drop k sent) item
among_drop zero last sent item are above among = among
among_drop (suc k) last [] item are above among = absurd among
among_drop (suc k) last (s ∷ sent) item are above among =
    let is : s.number ≡ last + 1 = are.0 in
    elim among [
      | inl same ↦
          let at : s.number ≡ item.number = ap (λ (i : Numbered). i.number) same in
          absurd (omega arith)
      | inr later ↦
          let above_too : s.number + k < item.number = omega arith in
          among_drop k s.number sent item are.1 above_too later
    ]

pub taken_from_cut : TakenFromCut
taken_from_cut last more taken sent are are_2 most all =
    taken_is_front (last + more) taken (drop more sent) are (drop_numbered more last sent most are_2)
    (λ item among. among_drop more last sent item are_2 (number_above (last + more) taken item are among) (all item among))
