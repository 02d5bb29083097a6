-- Stamped journals are the merge of the laws.
use Rattle.std.proofs.Common.{◌≡◌, inl, inr, if◌then◌else◌, nat_lt, Bool, true, false, ℕ, zero, suc, ◌<◌, ◌≤◌, List, [], ◌∷◌, ◌++◌, map, refl, ap, sym, ◌∙◌, arith}
use Rattle.std.proofs.lemmas.Bool.{cases_lt}
use Rattle.std.proofs.lemmas.Grind.{common_steps}
use Rattle.mc_box.specs.BoxEvents.{turn_of}
use Rattle.mc_box.specs.declared.event.Turn.{Turn}
use Rattle.mc_merge.specs.Logs.{Own}
use Rattle.mc_merge.specs.Order.{turns_of}
use Rattle.mc_shard.specs.Journals.{EntryState}
use Rattle.mc_shard.specs.States.{IsJournal, Places, ShardState, after_entry}
use Rattle.mc_shard_laws.specs.Logs.{owns}
use Rattle.mc_shard_laws.specs.Merged.{entries_in, merge, merged_journals, named, put_in}
use Rattle.mc_shard_laws.specs.Together.{Journalled}
use Rattle.mc_shard_merge.specs.Compared.{journal_at}
use Rattle.mc_shard_merge.specs.Stamped.{before_stamp, from_stamp, stamped_turn, stamped_turns, bare_turn, merged_with, merged_stamped}
use Rattle.mc_shard_merge.specs.declared.stamped.StampedTurn.{StampedTurn}

-- ---- what the merge does to turns with stamps alone

abbrev stamped_of : Own → StampedTurn
stamped_of own = record { stamp = own.entry.stamp; turn = turn_of own.who own.entry.event }

abbrev put : StampedTurn → List StampedTurn → List StampedTurn
put turn [] = turn ∷ []
put turn (first ∷ rest) = if nat_lt first.stamp turn.stamp then first ∷ put turn rest else turn ∷ first ∷ rest

abbrev put_all : List StampedTurn → List StampedTurn → List StampedTurn
put_all [] others = others
put_all (turn ∷ turns) others = put turn (put_all turns others)

map_if : (test : Bool) (xs ys : List Own) → map stamped_of (if test then xs else ys) ≡ (if test then map stamped_of xs else map stamped_of ys)
map_if true xs ys = refl
map_if false xs ys = refl

put_same : (own : Own) (zs : List Own) → map stamped_of (put_in own zs) ≡ put (stamped_of own) (map stamped_of zs)
put_same own [] = refl
put_same own (first ∷ rest) =
    map_if (nat_lt first.entry.stamp own.entry.stamp) (first ∷ put_in own rest) (own ∷ first ∷ rest)
    ∙ ap (λ (l : List StampedTurn). if nat_lt first.entry.stamp own.entry.stamp then stamped_of first ∷ l else stamped_of own ∷ stamped_of first ∷ map stamped_of rest) (put_same own rest)

merge_same : (xs ys : List Own) → map stamped_of (merge xs ys) ≡ put_all (map stamped_of xs) (map stamped_of ys)
merge_same [] ys = refl
merge_same (x ∷ xs) ys = put_same x (merge xs ys) ∙ ap (λ (l : List StampedTurn). put (stamped_of x) l) (merge_same xs ys)

-- ---- a list in order

-- the first stamp isn't below this one
abbrev NotBelow : ℕ → List StampedTurn → Type 0
NotBelow stamp [] = Unit {0}
NotBelow stamp (first ∷ rest) = stamp ≤ first.stamp

abbrev Above : ℕ → List StampedTurn → Type 0
Above stamp [] = Unit {0}
Above stamp (first ∷ rest) = stamp < first.stamp

abbrev InOrder : List StampedTurn → Type 0
InOrder [] = Unit {0}
InOrder (turn ∷ turns) = NotBelow turn.stamp turns × InOrder turns

above_first : (low high : ℕ) (turns : List StampedTurn) → low < high → NotBelow high turns → Above low turns
above_first low high [] below not_below = tt
above_first low high (turn ∷ turns) below not_below =
    let most : high ≤ turn.stamp = not_below in
    omega arith

put_here : (turn : StampedTurn) (others : List StampedTurn) → NotBelow turn.stamp others → put turn others ≡ turn ∷ others
put_here turn [] not_below = refl
put_here turn (first ∷ rest) not_below =
    let most : turn.stamp ≤ first.stamp = not_below in
    let is : nat_lt first.stamp turn.stamp ≡ false = grind (arith, common_steps) in
    ap (λ (b : Bool). if b then first ∷ put turn rest else turn ∷ first ∷ rest) is

put_past : (turn first : StampedTurn) (rest : List StampedTurn) → first.stamp < turn.stamp → put turn (first ∷ rest) ≡ first ∷ put turn rest
put_past turn first rest below =
    let is : nat_lt first.stamp turn.stamp ≡ true = grind (arith, common_steps) in
    ap (λ (b : Bool). if b then first ∷ put turn rest else turn ∷ first ∷ rest) is

merged_past : (turns : List StampedTurn) (first : StampedTurn) (rest : List StampedTurn) → Above first.stamp turns → merged_with turns (first ∷ rest) ≡ first ∷ merged_with turns rest
merged_past [] first rest above = refl
merged_past (turn ∷ turns) first rest above =
    let below : first.stamp < turn.stamp = above in
    let is : nat_lt first.stamp turn.stamp ≡ true = grind (arith, common_steps) in
    ap (λ (b : Bool). (if b then first ∷ before_stamp turn.stamp rest else []) ++ turn ∷ merged_with turns (if b then from_stamp turn.stamp rest else first ∷ rest)) is

merged_here : (turn : StampedTurn) (turns : List StampedTurn) (first : StampedTurn) (rest : List StampedTurn) → turn.stamp ≤ first.stamp
    → merged_with (turn ∷ turns) (first ∷ rest) ≡ turn ∷ merged_with turns (first ∷ rest)
merged_here turn turns first rest most =
    let is : nat_lt first.stamp turn.stamp ≡ false = grind (arith, common_steps) in
    ap (λ (b : Bool). (if b then first ∷ before_stamp turn.stamp rest else []) ++ turn ∷ merged_with turns (if b then from_stamp turn.stamp rest else first ∷ rest)) is

first_by : (test : Bool) (stamp : ℕ) (first turn : StampedTurn) (between rest : List StampedTurn) → stamp ≤ first.stamp → stamp ≤ turn.stamp
    → NotBelow stamp ((if test then first ∷ between else []) ++ turn ∷ rest)
first_by true stamp first turn between rest most most_2 = most
first_by false stamp first turn between rest most most_2 = most_2

merged_first : (stamp : ℕ) (turns others : List StampedTurn) → NotBelow stamp turns → NotBelow stamp others → NotBelow stamp (merged_with turns others)
merged_first stamp [] others not_below not_below_2 = not_below_2
merged_first stamp (turn ∷ turns) [] not_below not_below_2 = not_below
merged_first stamp (turn ∷ turns) (first ∷ rest) not_below not_below_2 =
    first_by (nat_lt first.stamp turn.stamp) stamp first turn (before_stamp turn.stamp rest) (merged_with turns (from_stamp turn.stamp (first ∷ rest))) not_below_2 not_below

put_merged : (turn : StampedTurn) (turns others : List StampedTurn) → NotBelow turn.stamp turns → put turn (merged_with turns others) ≡ merged_with (turn ∷ turns) others
put_merged turn turns [] not_below = put_here turn (merged_with turns []) (merged_first turn.stamp turns [] not_below tt)
put_merged turn turns (first ∷ rest) not_below = elim (cases_lt first.stamp turn.stamp) [
  | inl below ↦
      ap (λ (l : List StampedTurn). put turn l) (merged_past turns first rest (above_first first.stamp turn.stamp turns below not_below))
      ∙ (put_past turn first (merged_with turns rest) below
      ∙ (ap (λ (l : List StampedTurn). first ∷ l) (put_merged turn turns rest not_below)
      ∙ sym (merged_past (turn ∷ turns) first rest below)))
  | inr most ↦
      put_here turn (merged_with turns (first ∷ rest)) (merged_first turn.stamp turns (first ∷ rest) not_below most)
      ∙ sym (merged_here turn turns first rest most)
]

all_merged : (turns others : List StampedTurn) → InOrder turns → put_all turns others ≡ merged_with turns others
all_merged [] others order = refl
all_merged (turn ∷ turns) others order = ap (λ (l : List StampedTurn). put turn l) (all_merged turns others order.1) ∙ put_merged turn turns others order.0

-- ---- journals

named_turns : (names : ℕ → ℕ) (state : ShardState) (journal : List EntryState) → map stamped_of (named names (owns state journal)) ≡ stamped_turns names journal
named_turns names state [] = refl
named_turns names state (entry ∷ journal) = ap (λ (l : List StampedTurn). stamped_turn names entry ∷ l) (named_turns names (after_entry state entry) journal)

next_above : (names : ℕ → ℕ) (places : Places) (state : ShardState) (entry : EntryState) (journal : List EntryState) → IsJournal places (after_entry state entry) journal
    → NotBelow entry.stamp (stamped_turns names journal)
next_above names places state entry [] journals = tt
next_above names places state entry (next ∷ journal) journals =
    let rises : entry.stamp < next.stamp = journals.0.rises in
    let most : entry.stamp ≤ next.stamp = omega arith in
    most

in_order : (names : ℕ → ℕ) (places : Places) (state : ShardState) (journal : List EntryState) → IsJournal places state journal → InOrder (stamped_turns names journal)
in_order names places state [] is = tt
in_order names places state (entry ∷ journal) is = (next_above names places state entry journal is.1, in_order names places (after_entry state entry) journal is.1)

-- those of the first so many shards
merged_so_far : (k count : ℕ) (names : ℕ → ℕ → ℕ) (journals : List (List EntryState)) (shards : ℕ → Journalled) → k ≤ count
    → ((shard : ℕ) → shard < count → (shards shard).journal ≡ journal_at journals shard)
    → ((shard : ℕ) → shard < count → IsJournal (shards shard).places (shards shard).first (shards shard).journal)
    → map stamped_of (merged_journals k names shards) ≡ merged_stamped k names journals
merged_so_far zero count names journals shards most have are = refl
merged_so_far (suc k) count names journals shards most have are =
    let under : k < count = omega arith in
    let less : k ≤ count = omega arith in
    let shard = shards k in
    let before = merged_journals k names shards in
    let turns = stamped_turns (names k) shard.journal in
    merge_same (named (names k) (entries_in shard)) before
    ∙ (ap (λ (l : List StampedTurn). put_all l (map stamped_of before)) (named_turns (names k) shard.first shard.journal)
    ∙ (all_merged turns (map stamped_of before) (in_order (names k) shard.places shard.first shard.journal (are k under))
    ∙ (ap (λ (l : List StampedTurn). merged_with turns l) (merged_so_far k count names journals shards less have are)
    ∙ ap (λ (l : List EntryState). merged_with (stamped_turns (names k) l) (merged_stamped k names journals)) (have k under))))

turns_same : (whole : List Own) → map bare_turn (map stamped_of whole) ≡ turns_of whole
turns_same [] = refl
turns_same (own ∷ whole) = ap (λ (l : List Turn). turn_of own.who own.entry.event ∷ l) (turns_same whole)

pub merged_is : (count : ℕ) (names : ℕ → ℕ → ℕ) (journals : List (List EntryState)) (shards : ℕ → Journalled)
    → ((shard : ℕ) → shard < count → (shards shard).journal ≡ journal_at journals shard)
    → ((shard : ℕ) → shard < count → IsJournal (shards shard).places (shards shard).first (shards shard).journal)
    → map bare_turn (merged_stamped count names journals) ≡ turns_of (merged_journals count names shards)
merged_is count names journals shards have are =
    let most : count ≤ count = omega arith in
    ap (λ (l : List StampedTurn). map bare_turn l) (sym (merged_so_far count count names journals shards most have are))
    ∙ turns_same (merged_journals count names shards)
