-- Rows and cells, one more at a time.
use Rattle.std.proofs.Common.{◌≡◌, ◌<◌, ◌≤◌, ◌+◌, ◌++◌, ◌∙◌, ℕ, zero, suc, Bool, true, false, if◌then◌else◌, List, [], ◌∷◌, drop, length, map, flat_map, refl, ap, sym, append_assoc, append-nil, arith, codes}
use Rattle.std.proofs.Math.ListN.{get_or}
use Rattle.std.proofs.lemmas.List.{drop_all, drop_more, flat_map_more, length-map, map_push}
use Rattle.std.specs.List.{range_with_len}
use Rattle.std.specs.declared.alloc.Global.{Global}
use Rattle.std.specs.Prelude.{Vec}
use Rattle.mc_ladder.proofs.Numbered.{map_one_more, numbers_more}
use Rattle.mc_ladder_choice.specs.Entries.{world_after}
use Rattle.mc_model.specs.Worlds.{WorldState}
use Rattle.mc_program_lines.specs.Programs.{BlockState, words_of}
use Rattle.mc_script.specs.declared.command.JournalLine.{JournalLine}
use Rattle.mc_script.specs.declared.command.JournalLine.TheVariants.{Turn as Made, Settled}
use Rattle.mc_text.specs.NameLists.{NameLists}
use Rattle.mc_ladder_page.proofs.Chains.{four}
use Rattle.mc_ladder_page.specs.declared.row.Passed.{Passed}
use Rattle.mc_ladder_page.specs.Cells.{cells_of}
use Rattle.mc_ladder_page.specs.Changes.{CellChange, change_at, change_text, changes_from, changes_text, differs}
use Rattle.mc_ladder_page.specs.Data.{data_rows, first_row_by, line_row, network_text, none_passed, page_data, passed_after}

-- ---- words that are owned

-- a word, by its place
pub word_at : (cells : List (Vec ℕ Global)) (at : ℕ) (cell : Vec ℕ Global) → at < length cells → cell ≡ get_or cells at cell → cell.items ≡ get_or (words_of cells) at cell.items
word_at [] at cell below here = absurd (omega (arith, below))
word_at (first ∷ cells) zero cell below here = ap (λ (c : Vec ℕ Global). c.items) here
word_at (first ∷ cells) (suc at) cell below here = word_at cells at cell (omega (arith, below)) here

pub word_count : (cells : List (Vec ℕ Global)) → length (words_of cells) ≡ length cells
word_count cells = length-map cells (λ (c : Vec ℕ Global). c.items)

-- words behind others
pub words_more : (cells : List (Vec ℕ Global)) (cell : Vec ℕ Global) → words_of (cells ++ cell ∷ []) ≡ words_of cells ++ cell.items ∷ []
words_more cells cell = map_push (λ (c : Vec ℕ Global). c.items) cells cell

-- ---- cells

-- the cells of a slot more
pub slot_more : (f : ℕ → List (List ℕ)) (start : List (List ℕ)) (cells next more after : List (Vec ℕ Global)) (one two three : Vec ℕ Global) (slot : ℕ)
    → words_of cells ≡ start ++ flat_map f (range_with_len 0 slot) → f slot ≡ one.items ∷ two.items ∷ three.items ∷ []
    → next ≡ cells ++ one ∷ [] → more ≡ next ++ two ∷ [] → after ≡ more ++ three ∷ [] → words_of after ≡ start ++ flat_map f (range_with_len 0 (slot + 1))
slot_more f start cells next more after one two three slot so_far are first second third =
    ap words_of third ∙ (words_more more three ∙ (ap (λ (l : List (List ℕ)). l ++ three.items ∷ []) (ap words_of second ∙ (words_more next two
    ∙ ap (λ (l : List (List ℕ)). l ++ two.items ∷ []) (ap words_of first ∙ (words_more cells one ∙ ap (λ (l : List (List ℕ)). l ++ one.items ∷ []) so_far))))
    ∙ (append_assoc ((start ++ flat_map f (range_with_len 0 slot)) ++ one.items ∷ []) (two.items ∷ []) (three.items ∷ [])
    ∙ (append_assoc (start ++ flat_map f (range_with_len 0 slot)) (one.items ∷ []) (two.items ∷ three.items ∷ [])
    ∙ (ap (λ (l : List (List ℕ)). (start ++ flat_map f (range_with_len 0 slot)) ++ l) (sym are)
    ∙ (flat_map_more f start (range_with_len 0 slot) slot
    ∙ ap (λ (ks : List ℕ). start ++ flat_map f ks) (sym (numbers_more slot))))))))

-- the cell of a box more
pub box_more : (f : ℕ → List ℕ) (start : List (List ℕ)) (cells next : List (Vec ℕ Global)) (cell : Vec ℕ Global) (who : ℕ)
    → words_of cells ≡ start ++ map f (range_with_len 0 who) → f who ≡ cell.items → next ≡ cells ++ cell ∷ [] → words_of next ≡ start ++ map f (range_with_len 0 (who + 1))
box_more f start cells next cell who so_far is more =
    ap words_of more ∙ (words_more cells cell ∙ (ap (λ (l : List (List ℕ)). l ++ cell.items ∷ []) so_far
    ∙ (append_assoc start (map f (range_with_len 0 who)) (cell.items ∷ [])
    ∙ (ap (λ (c : List ℕ). start ++ (map f (range_with_len 0 who) ++ c ∷ [])) (sym is)
    ∙ ap (λ (l : List (List ℕ)). start ++ l) (sym (map_one_more f who))))))

-- ---- changes

-- what is told so far, and the changes of the cells that are left, are all
abbrev pub IsChanged : (old cells : List (List ℕ)) (start told : List ℕ) (at : ℕ) → Type 0
IsChanged old cells start told at = told ++ changes_text (changes_from old at (drop at cells)) ≡ start ++ changes_text (changes_from old 0 cells)

changes_append : (a b : List CellChange) → changes_text (a ++ b) ≡ changes_text a ++ changes_text b
changes_append [] b = refl
changes_append (change ∷ a) b = ap (λ (l : List ℕ). change_text change ++ l) (changes_append a b) ∙ sym (append_assoc (change_text change) (changes_text a) (changes_text b))

left_is : (old cells : List (List ℕ)) (at : ℕ) (cell : List ℕ) → at < length cells → cell ≡ get_or cells at cell
    → changes_text (changes_from old at (drop at cells)) ≡ changes_text (change_at old at cell) ++ changes_text (changes_from old (at + 1) (drop (at + 1) cells))
left_is old cells at cell below here =
    ap (λ (l : List (List ℕ)). changes_text (changes_from old at l)) (drop_more cells at cell below ∙ ap (λ (c : List ℕ). c ∷ drop (at + 1) cells) (sym here))
    ∙ changes_append (change_at old at cell) (changes_from old (at + 1) (drop (at + 1) cells))

-- a cell that is another
pub changed_more : (old cells : List (List ℕ)) (start told next : List ℕ) (at : ℕ) (cell : List ℕ) → at < length cells → cell ≡ get_or cells at cell
    → differs old at cell ≡ true → next ≡ told ++ change_text (record { at = at; cell = cell }) → IsChanged old cells start told at → IsChanged old cells start next (at + 1)
changed_more old cells start told next at cell below here other is so_far =
    let rest = changes_text (changes_from old (at + 1) (drop (at + 1) cells)) in
    let text = change_text (record { at = at; cell = cell }) in
    let one : changes_text (change_at old at cell) ≡ text ++ [] = ap (λ (b : Bool). changes_text (if b then record { at = at; cell = cell } ∷ [] else [])) other in
    let left : changes_text (changes_from old at (drop at cells)) ≡ text ++ rest = left_is old cells at cell below here ∙ ap (λ (l : List ℕ). l ++ rest) (one ∙ append-nil text) in
    ap (λ (l : List ℕ). l ++ rest) is ∙ (append_assoc told text rest ∙ (ap (λ (l : List ℕ). told ++ l) (sym left) ∙ so_far))

-- a cell that is as it was
pub changed_same : (old cells : List (List ℕ)) (start told : List ℕ) (at : ℕ) (cell : List ℕ) → at < length cells → cell ≡ get_or cells at cell
    → differs old at cell ≡ false → IsChanged old cells start told at → IsChanged old cells start told (at + 1)
changed_same old cells start told at cell below here same so_far =
    let rest = changes_text (changes_from old (at + 1) (drop (at + 1) cells)) in
    let none : changes_text (change_at old at cell) ≡ [] = ap (λ (b : Bool). changes_text (if b then record { at = at; cell = cell } ∷ [] else [])) same in
    let left : changes_text (changes_from old at (drop at cells)) ≡ rest = left_is old cells at cell below here ∙ ap (λ (l : List ℕ). l ++ rest) none in
    ap (λ (l : List ℕ). told ++ l) (sym left) ∙ so_far

-- ---- lines

-- before a line of a journal: the rest gives what the whole gives, and no number passes that of the lines
pub record IsTold (names : NameLists) (blocks : List BlockState) (first : WorldState) (journal : List JournalLine) (start : List ℕ) (world : WorldState) (shown : List (List ℕ)) (passed : Passed) (i : ℕ)
    (told : List ℕ) : Type 0 where
  pub rows : told ++ data_rows names blocks world passed (drop i journal) ≡ start ++ data_rows names blocks first none_passed journal
  pub cells : shown ≡ cells_of names blocks world
  pub turns : passed.turns ≤ i
  pub settles : passed.settles ≤ i

-- no count passes that of the lines
counts_more : (passed : Passed) (line : JournalLine) (i : ℕ) → passed.turns ≤ i → passed.settles ≤ i
    → ((passed_after passed line).turns ≤ i + 1) × ((passed_after passed line).settles ≤ i + 1)
counts_more passed (Made turn) i turns settles = (omega arith, omega arith)
counts_more passed Settled i turns settles = (omega arith, omega arith)

-- a line more
pub line_more : (names : NameLists) (blocks : List BlockState) (first : WorldState) (journal : List JournalLine) (start : List ℕ) (world next_world : WorldState) (cells next_cells : List (List ℕ))
    (passed next_passed : Passed) (i : ℕ) (default : JournalLine) (told next : List ℕ) → i < length journal
    → next ≡ told ++ line_row names blocks world passed (get_or journal i default)
    → next_world ≡ world_after world (get_or journal i default) → next_passed ≡ passed_after passed (get_or journal i default) → next_cells ≡ cells_of names blocks next_world
    → IsTold names blocks first journal start world cells passed i told → IsTold names blocks first journal start next_world next_cells next_passed (i + 1) next
line_more names blocks first journal start world next_world cells next_cells passed next_passed i default told next below row made counted cells_are now =
    let line = get_or journal i default in
    let counts = counts_more passed line i now.turns now.settles in
    record {
      rows = rw (row, made, counted) (append_assoc told (line_row names blocks world passed line) (data_rows names blocks (world_after world line) (passed_after passed line) (drop (i + 1) journal))
          ∙ (ap (λ (lines : List JournalLine). told ++ data_rows names blocks world passed lines) (sym (drop_more journal i default below)) ∙ now.rows));
      cells = cells_are;
      turns = rw counted counts.0;
      settles = rw counted counts.1;
    }

-- after the last line all is told
pub all_told : (names : NameLists) (blocks : List BlockState) (first : WorldState) (journal : List JournalLine) (start : List ℕ) (world : WorldState) (cells : List (List ℕ)) (passed : Passed) (i : ℕ)
    (told : List ℕ) → length journal ≤ i → IsTold names blocks first journal start world cells passed i told → told ≡ start ++ data_rows names blocks first none_passed journal
all_told names blocks first journal start world cells passed i told past now =
    sym (append-nil told) ∙ (ap (λ (lines : List JournalLine). told ++ data_rows names blocks world passed lines) (sym (drop_all i journal past)) ∙ now.rows)

-- ---- the data

-- the network, the first row and the rows of the lines
pub data_whole : (names : NameLists) (blocks : List BlockState) (world : WorldState) (journal : List JournalLine) (start one two three all : List ℕ) (shown : List (List ℕ))
    → one ≡ start ++ network_text names world → two ≡ one ++ first_row_by shown → shown ≡ cells_of names blocks world
    → three ≡ two ++ data_rows names blocks world none_passed journal → all ≡ three ++ codes "]}\n" → all ≡ start ++ page_data names blocks world journal
data_whole names blocks world journal start one two three all shown is more same others last =
    four start one two three all (network_text names world) (first_row_by shown) (data_rows names blocks world none_passed journal) (codes "]}\n") is more others last
    ∙ ap (λ (cells : List (List ℕ)). start ++ (network_text names world ++ first_row_by cells ++ data_rows names blocks world none_passed journal ++ codes "]}\n")) same
