-- Lists of lists, as code changes them.
use Rattle.std.proofs.Common.{◌≡◌, ◌<◌, ◌+◌, ℕ, List, [], ◌∷◌, ◌++◌, length, replicate, ap, sym, ◌∙◌}
use Rattle.std.proofs.Math.ListN.{get_or, set}
use Rattle.std.proofs.lemmas.List.{get_or-map, map-set, map_push, replicate_more}
use Rattle.std.specs.declared.alloc.Global.{Global}
use Rattle.std.specs.declared.vec.Vec.{Vec}
use Rattle.mc_box.specs.Boxes.{BoxState}
use Rattle.mc_team.specs.Layouts.{inner_lists, of_box}
use Rattle.mc_team.proofs.TeamAdded.{with_added}

-- what a list has that is read
pub read_box : {A : Type 0} → (lists : List (Vec A Global)) (who : ℕ) (list : Vec A Global) → who < length lists → list ≡ get_or lists who list → of_box (inner_lists lists) who ≡ list.items
read_box {A} lists who list here is =
    get_or-map (λ (v : Vec A Global). v.items) lists who list [] here ∙ ap (λ (v : Vec A Global). v.items) (sym is)

-- one of them is replaced
pub list_replaced : {A : Type 0} → (lists : List (Vec A Global)) (who : ℕ) (new : Vec A Global) → inner_lists (set lists who new) ≡ set (inner_lists lists) who new.items
list_replaced {A} lists who new = map-set (λ (v : Vec A Global). v.items) lists who new

-- one of them is longer
pub list_longer : {A : Type 0} → (lists : List (Vec A Global)) (who : ℕ) (old new : Vec A Global) (x : A) → who < length lists → old ≡ get_or lists who old → new.items ≡ old.items ++ x ∷ []
    → inner_lists (set lists who new) ≡ with_added (inner_lists lists) who x
list_longer {A} lists who old new x here is longer =
    list_replaced lists who new
    ∙ ap (λ (l : List A). set (inner_lists lists) who l) (longer ∙ ap (λ (l : List A). l ++ x ∷ []) (sym (read_box lists who old here is)))

-- one empty list more
pub empty_lists_more : {A : Type 0} → (lists : List (Vec A Global)) (list : Vec A Global) (n : ℕ) → inner_lists lists ≡ replicate n [] → list.items ≡ [] → inner_lists (lists ++ list ∷ []) ≡ replicate (n + 1) []
empty_lists_more {A} lists list n before empty = rw (map_push (λ (v : Vec A Global). v.items) lists list, before, empty) (replicate_more n [])

-- ---- an entry for each slot

abbrev pub bare_of : BoxState → List (ℕ × ℕ)
bare_of one = replicate (length one.slots) (0, 0)
