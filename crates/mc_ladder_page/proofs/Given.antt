-- What changes give, one after the other.
use Rattle.std.proofs.Common.{◌≡◌, ◌≤◌, ◌+◌, ◌∙◌, ℕ, zero, suc, Bool, true, false, List, [], ◌∷◌, ◌++◌, length, map, flat_map, take, drop, not, if◌then◌else◌, unwrap_or, refl, ap, ap₂, sym, append_assoc, Option, Some, None, arith}
use Rattle.std.specs.List.{range_with_len, slice_get}
use Rattle.std.specs.Str.{bytes_eq}
use Rattle.std.proofs.Math.Seq.{drop-append-add, take-append_seam}
use Rattle.std.proofs.lemmas.List.{drop-drop, drop_all, drop_more, length-append}
use Rattle.std.proofs.lemmas.Option.{get_or_from_slice_get, slice_get_within}
use Rattle.std.proofs.lemmas.Slice.Eq.{bytes_eq-Decides}
use Rattle.mc_laws.proofs.ShapesKept.{step_keeps_shape}
use Rattle.mc_laws.proofs.StepKeeps.{step_keeps_sound}
use Rattle.mc_box.specs.declared.event.Turn.{Turn}
use Rattle.mc_model.specs.Sound.{IsSound}
use Rattle.mc_model.specs.Steps.{step}
use Rattle.mc_model.specs.Worlds.{ChannelState, WorldState, places_among, slot_count}
use Rattle.mc_program_lines.specs.Programs.{BlockState}
use Rattle.mc_script.specs.declared.command.JournalLine.{JournalLine}
use Rattle.mc_script.specs.declared.command.JournalLine.TheVariants.{Turn as Made, Settled}
use Rattle.mc_text.specs.NameLists.{NameLists}
use Rattle.mc_view.specs.declared.PathView.{PathView}
use Rattle.mc_ladder_choice.specs.Choices.{views_of}
use Rattle.mc_ladder_choice.specs.Entries.{world_after}
use Rattle.mc_ladder_page.specs.Cells.{all_box_cells, all_slot_cells, box_cell, cells_of, slot_cells}
use Rattle.mc_ladder_page.specs.Changes.{changes_from, differs, is_another, with_change, with_changes}
use Rattle.mc_ladder_page.specs.Data.{line_changes}
use Rattle.mc_ladder_page.specs.Replaying.{RowsGiveWorlds, cells_after, changes_along, world_by}

-- ---- changes

-- a cell that is found at a number stands at the beginning of what is left there
found_first : (old : List (List ℕ)) (at : ℕ) (cell : List ℕ) → slice_get old at ≡ Some cell → drop at old ≡ cell ∷ drop (at + 1) old
found_first old at cell is =
    drop_more old at [] (slice_get_within old at cell is) ∙ ap (λ (c : List ℕ). c ∷ drop (at + 1) old) (get_or_from_slice_get old at cell [] is)

-- a cell that is no other is the one that is found
no_other : (found : Option (List ℕ)) (cell : List ℕ) → is_another found cell ≡ false → found ≡ Some cell
no_other None cell is = absurd (cc)
no_other (Some old) cell is = by (bytes_eq old cell) refl is
  where
    by : (same : Bool) → bytes_eq old cell ≡ same → not same ≡ false → Some old ≡ Some cell
    by true e i = ap (λ (c : List ℕ). Some c) ((bytes_eq-Decides old cell).0 e)
    by false e i = absurd (cc)

-- a change behind the cells so far puts its cell there
change_more : (old done : List (List ℕ)) (at : ℕ) (cell : List ℕ) → length done ≡ at
    → with_change (done ++ drop at old) (record { at = at; cell = cell }) ≡ (done ++ cell ∷ []) ++ drop (at + 1) old
change_more old done at cell is = rw (sym is)
    (ap (λ (l : List (List ℕ)). l ++ cell ∷ drop (length done + 1) (done ++ drop (length done) old)) (take-append_seam done (drop (length done) old))
    ∙ (ap (λ (l : List (List ℕ)). done ++ cell ∷ l) (drop-append-add done (drop (length done) old) 1 ∙ drop-drop 1 (length done) old)
    ∙ sym (append_assoc done (cell ∷ []) (drop (length done + 1) old))))

-- the changes of a list that is as long at least give it
pub gives : (old news done : List (List ℕ)) (at : ℕ) → length done ≡ at → length old ≤ at + length news
    → with_changes (done ++ drop at old) (changes_from old at news) ≡ done ++ news
gives old [] done at is few = ap (λ (l : List (List ℕ)). done ++ l) (drop_all at old (omega (arith, few)))
gives old (cell ∷ news) done at is few =
    by (differs old at cell) refl
    (gives old news (done ++ cell ∷ []) (at + 1) (length-append done (cell ∷ []) ∙ ap (λ (n : ℕ). n + 1) is) (omega (arith, few))
    ∙ append_assoc done (cell ∷ []) news)
  where
    by : (other : Bool) → differs old at cell ≡ other
        → with_changes ((done ++ cell ∷ []) ++ drop (at + 1) old) (changes_from old (at + 1) news) ≡ done ++ cell ∷ news
        → with_changes (done ++ drop at old) ((if other then record { at = at; cell = cell } ∷ [] else []) ++ changes_from old (at + 1) news) ≡ done ++ cell ∷ news
    by true e next = ap (λ (l : List (List ℕ)). with_changes l (changes_from old (at + 1) news)) (change_more old done at cell is) ∙ next
    by false e next =
        ap (λ (l : List (List ℕ)). with_changes l (changes_from old (at + 1) news))
        (ap (λ (l : List (List ℕ)). done ++ l) (found_first old at cell (no_other (slice_get old at) cell e)) ∙ sym (append_assoc done (cell ∷ []) (drop (at + 1) old)))
        ∙ next

-- ---- how many cells a world has

-- three for each slot, whatever they are
as_many_slots : (names : NameLists) (world other : WorldState) (views others : List PathView) (slots : List ℕ)
    → length (flat_map (slot_cells names world views) slots) ≡ length (flat_map (slot_cells names other others) slots)
as_many_slots names world other views others [] = refl
as_many_slots names world other views others (slot ∷ slots) = ap (λ (n : ℕ). suc (suc (suc n))) (as_many_slots names world other views others slots)

as_many_boxes : (names : NameLists) (blocks : List BlockState) (world other : WorldState) (boxes : List ℕ)
    → length (map (box_cell names blocks world) boxes) ≡ length (map (box_cell names blocks other) boxes)
as_many_boxes names blocks world other [] = refl
as_many_boxes names blocks world other (who ∷ boxes) = ap suc (as_many_boxes names blocks world other boxes)

-- worlds of the same channels have as many
pub as_many : (names : NameLists) (blocks : List BlockState) (world other : WorldState) → other.channels ≡ world.channels
    → length (cells_of names blocks other) ≡ length (cells_of names blocks world)
as_many names blocks world other same =
    length-append (all_slot_cells names other (views_of other) (slot_count other)) (all_box_cells names blocks other (length names.boxes))
    ∙ (ap₂ (λ (a b : ℕ). a + b)
    (as_many_slots names other world (views_of other) (views_of world) (range_with_len 0 (slot_count other))
    ∙ ap (λ (channels : List ChannelState). length (flat_map (slot_cells names world (views_of world)) (range_with_len 0 (length (places_among channels))))) same)
    (as_many_boxes names blocks other world (range_with_len 0 (length names.boxes)))
    ∙ sym (length-append (all_slot_cells names world (views_of world) (slot_count world)) (all_box_cells names blocks world (length names.boxes))))

-- ---- lines

-- a line changes no channel, and leaves a sound world
goes_on : (world : WorldState) (turn : Turn) (next : Option WorldState) → IsSound world → step world turn ≡ next
    → ((unwrap_or next world).channels ≡ world.channels) × IsSound (unwrap_or next world)
goes_on world turn None sound is = (refl, sound)
goes_on world turn (Some next) sound is = ((step_keeps_shape world next turn sound is).channels, step_keeps_sound world next turn sound is)

line_goes_on : (world : WorldState) (line : JournalLine) → IsSound world
    → ((world_after world line).channels ≡ world.channels) × IsSound (world_after world line)
line_goes_on world (Made turn) sound = goes_on world turn (step world turn) sound refl
line_goes_on world Settled sound = (refl, sound)

-- the changes of a line lead from the cells before to those after
line_gives : (names : NameLists) (blocks : List BlockState) (world : WorldState) (line : JournalLine) → IsSound world
    → with_changes (cells_of names blocks world) (line_changes names blocks world line) ≡ cells_of names blocks (world_after world line)
line_gives names blocks world line sound =
    let many = as_many names blocks world (world_after world line) (line_goes_on world line sound).0 in
    gives (cells_of names blocks world) (cells_of names blocks (world_after world line)) [] 0 refl (omega (arith, many))

lines_give : (names : NameLists) (blocks : List BlockState) (world : WorldState) (journal : List JournalLine) (k : ℕ) → IsSound world
    → cells_after (cells_of names blocks world) (take k (changes_along names blocks world journal)) ≡ cells_of names blocks (world_by world (take k journal))
lines_give names blocks world journal zero sound = refl
lines_give names blocks world [] (suc k) sound = refl
lines_give names blocks world (line ∷ lines) (suc k) sound =
    ap (λ (cells : List (List ℕ)). cells_after cells (take k (changes_along names blocks (world_after world line) lines))) (line_gives names blocks world line sound)
    ∙ lines_give names blocks (world_after world line) lines k (line_goes_on world line sound).1

pub rows_give_worlds : RowsGiveWorlds
rows_give_worlds names blocks world journal k sound =
    ap (λ (cells : List (List ℕ)). cells_after cells (take k (changes_along names blocks world journal)))
    (gives [] (cells_of names blocks world) [] 0 refl (omega arith))
    ∙ lines_give names blocks world journal k sound
