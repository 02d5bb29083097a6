-- A table that is filled by place: it passes where boxes and channels are those of an engine, and they are where it passes.
use Rattle.std.proofs.Common.{inl, inr, ◌≡◌, ◌≢◌, ◌<◌, ◌≤◌, ◌+◌, ℕ, Some, List, [], ◌∷◌, ◌++◌, length, map, get_or, Vec, refl, ap, sym, ◌∙◌, subst, arith}
use Rattle.std.specs.declared.alloc.Global.{Global}
use Rattle.std.specs.List.{slice_get}
use Rattle.std.proofs.Math.ListN.{get_or-eq_default, get_or-map, replicate, set}
use Rattle.std.proofs.lemmas.Bool.{cases_eq, cases_lt}
use Rattle.std.proofs.lemmas.List.{get_or-replicate, get_or_read, get_or-set_other, get_or-set_same, length-map, length-replicate, map-set, map_push, replicate_more}
use Rattle.std.proofs.lemmas.Option.{get_or_from_slice_get, slice_get-get_or, slice_get_within}
use Rattle.mc_box.specs.Boxes.{BoxState}
use Rattle.mc_laws.proofs.Numbers.{some_same}
use Rattle.mc_model.specs.Worlds.{ChannelState, places_among}
use Rattle.mc_world.specs.Pieces.{AreFilled, ArePlaced, FitsBoxes, HasPlaces, IsPiece, PutsAt}
use Rattle.mc_world.specs.Lanes.{numbers_of}
use Rattle.mc_world.specs.declared.topology.Topology.{Topology}
use Rattle.mc_world.proofs.PieceTables.{numbered}

-- ---- a table of nothing

abbrev no_numbers : List ℕ
no_numbers = []

abbrev numbers_in : Vec ℕ Global → List ℕ
numbers_in numbers = numbers.items

-- one more home without slots
pub one_more : (homes : List (Vec ℕ Global)) (home : Vec ℕ Global) (n : ℕ) → map numbers_in homes ≡ replicate n [] → home.items ≡ [] → map numbers_in (homes ++ home ∷ []) ≡ replicate (n + 1) []
one_more homes home n before empty = rw (map_push numbers_in homes home, before, empty) (replicate_more n [])

none_at : (n k : ℕ) → get_or (replicate n no_numbers) k no_numbers ≡ no_numbers
none_at n k = elim (cases_lt k n) [
  | inl below ↦ get_or-replicate n k no_numbers no_numbers below
  | inr above ↦ get_or-eq_default (replicate n no_numbers) no_numbers (omega (arith, above, length-replicate n no_numbers))
]

pub none_filled : (places : List (ℕ × ℕ)) (count : ℕ → ℕ) (homes : ℕ) (tables : List (List ℕ)) → tables ≡ replicate homes [] → AreFilled places count 0 tables
none_filled places count homes tables none = record {
  found = λ s below. absurd (omega (arith, below));
  most = λ who. subst (λ (l : List ℕ). length l ≤ count who) (sym (ap (λ (l : List (List ℕ)). get_or l who []) none ∙ none_at homes who)) (omega arith);
}

-- ---- one slot more

abbrev place_in : List (ℕ × ℕ) → ℕ → ℕ × ℕ
place_in places s = get_or places s (0, 0)

one_pair : (p q : ℕ × ℕ) → p.0 ≡ q.0 → p.1 ≡ q.1 → p ≡ q
one_pair (a, b) (c, d) first second = rw (first, second) refl

-- it was put, and none was put at its place before
pub fill_more : (places : List (ℕ × ℕ)) (homes : ℕ) (count : ℕ → ℕ) (n : ℕ) (tables : List (List ℕ)) (new : List ℕ) → HasPlaces places homes count → length tables ≡ homes → n < length places → AreFilled places count n tables
    → PutsAt (get_or tables (place_in places n).0 []) new (place_in places n).1 n → AreFilled places count (n + 1) (set tables (place_in places n).0 new)
fill_more places homes count n tables new has many below filled puts =
    let home : ℕ = (place_in places n).0 in
    let low : home < length tables = omega (arith, has.placed n below, many) in
    record {
      found = λ s less. elim (cases_eq (place_in places s).0 home) [
        | inl one ↦
            let here : slice_get new (place_in places s).1 ≡ Some s = elim (cases_eq s n) [
              | inl last ↦ subst (λ (k : ℕ). slice_get new (place_in places k).1 ≡ Some k) (sym last) puts.there
              | inr before ↦
                  puts.others (place_in places s).1 s (λ local. before (has.once s n (omega (arith, less, before, below)) below (one_pair (place_in places s) (place_in places n) one local)))
                  (subst (λ (h : ℕ). slice_get (get_or tables h []) (place_in places s).1 ≡ Some s) one (filled.found s (omega (arith, less, before))))
            ] in
            subst (λ (h : ℕ). slice_get (get_or (set tables home new) h []) (place_in places s).1 ≡ Some s) (sym one)
            (subst (λ (l : List ℕ). slice_get l (place_in places s).1 ≡ Some s) (sym (get_or-set_same tables home new [] low)) here)
        | inr other ↦
            let before : s ≢ n = λ same. other (ap (λ (k : ℕ). (place_in places k).0) same) in
            subst (λ (l : List ℕ). slice_get l (place_in places s).1 ≡ Some s) (sym (get_or-set_other tables home (place_in places s).0 new [] other)) (filled.found s (omega (arith, less, before)))
      ];
      most = λ who. elim (cases_eq who home) [
        | inl one ↦
            subst (λ (h : ℕ). length (get_or (set tables home new) h []) ≤ count h) (sym one)
            (subst (λ (l : List ℕ). length l ≤ count home) (sym (get_or-set_same tables home new [] low)) (puts.most (count home) (filled.most home) (has.locals n below)))
        | inr other ↦ subst (λ (l : List ℕ). length l ≤ count who) (sym (get_or-set_other tables home who new [] other)) (filled.most who)
      ];
    }

-- in a vector of homes, from one that was read there
pub was_read : (homes : List (Vec ℕ Global)) (who : ℕ) (read : Vec ℕ Global) → who < length homes → read ≡ get_or homes who read → read.items ≡ get_or (map numbers_in homes) who []
was_read homes who read here is =
    get_or_read (map numbers_in homes) who read.items (omega (arith, here, length-map homes numbers_in)) (ap numbers_in is ∙ sym (get_or-map numbers_in homes who read)) []

pub fill_next : (places : List (ℕ × ℕ)) (homes n : ℕ) (before : Vec (Vec ℕ Global) Global) (home read : Vec ℕ Global) → n < length places → length before.items ≡ homes → read.items ≡ get_or (map numbers_in before.items) (place_in places n).0 []
    → PutsAt read.items home.items (place_in places n).1 n → ((count : ℕ → ℕ) → HasPlaces places homes count → AreFilled places count n (map numbers_in before.items))
    → (count : ℕ → ℕ) → HasPlaces places homes count → AreFilled places count (n + 1) (map numbers_in (set before.items (place_in places n).0 home))
fill_next places homes n before home read below many was puts fills count has =
    subst (λ (l : List (List ℕ)). AreFilled places count (n + 1) l) (sym (map-set numbers_in before.items (place_in places n).0 home))
    (fill_more places homes count n (map numbers_in before.items) home.items has (length-map before.items numbers_in ∙ many) below (fills count has)
    (subst (λ (l : List ℕ). PutsAt l home.items (place_in places n).1 n) was puts))

-- ---- a table that is full passes

abbrev tables_of : Topology → List (List ℕ)
tables_of topology = map numbers_in topology.numbers.items

-- each local number is found
number_at : (topology : Topology) (homes : ℕ) (count : ℕ → ℕ) (who local : ℕ) → HasPlaces topology.places.items homes count → AreFilled topology.places.items count (length topology.places.items) (tables_of topology) → who < homes → local < count who
    → (s : ℕ) × (slice_get topology.places.items s ≡ Some (who, local)) × (slice_get (numbers_of topology who) local ≡ Some s)
number_at topology homes count who local has filled here low =
    let at = has.all who local here low in (
      at.0,
      slice_get-get_or topology.places.items at.0 (0, 0) at.1 ∙ ap Some at.2,
      subst (λ (p : ℕ × ℕ). slice_get (numbers_of topology p.0) p.1 ≡ Some at.0) at.2 (filled.found at.0 at.1),
    )

-- and there are no others
all_numbers : (topology : Topology) (homes : ℕ) (count : ℕ → ℕ) (who : ℕ) → HasPlaces topology.places.items homes count → AreFilled topology.places.items count (length topology.places.items) (tables_of topology) → who < homes
    → length (numbers_of topology who) ≡ count who
all_numbers topology homes count who has filled here = elim (cases_lt (length (numbers_of topology who)) (count who)) [
  | inl fewer ↦
      let at = number_at topology homes count who (length (numbers_of topology who)) has filled here fewer in
      absurd (omega (arith, slice_get_within (numbers_of topology who) (length (numbers_of topology who)) at.0 at.2))
  | inr all ↦ omega (arith, all, filled.most who)
]

all_placed : (topology : Topology) (homes : ℕ) (count : ℕ → ℕ) → HasPlaces topology.places.items homes count → AreFilled topology.places.items count (length topology.places.items) (tables_of topology) → length topology.numbers.items ≡ homes
    → ArePlaced topology
all_placed topology homes count has filled many = record {
  found = filled.found;
  placed = λ who here.
      let home : who < homes = omega (arith, here, many) in
      record {
        few = omega (arith, filled.most who, has.few who home);
        placed = λ local s low is.
            let at = number_at topology homes count who local has filled home (omega (arith, low, filled.most who)) in
            subst (λ (k : ℕ). slice_get topology.places.items k ≡ Some (who, local)) (some_same at.0 s (sym at.2 ∙ is)) at.1;
      };
}

-- so does that of boxes and channels of an engine
pub piece_passes : (topology : Topology) (boxes : List BoxState) (channels : List ChannelState) (homes : ℕ) → topology.places.items ≡ places_among channels → length topology.numbers.items ≡ homes
    → ((count : ℕ → ℕ) → HasPlaces topology.places.items homes count → AreFilled topology.places.items count (length topology.places.items) (tables_of topology)) → IsPiece boxes channels homes
    → FitsBoxes topology boxes
piece_passes topology boxes channels homes are many fills piece =
    let has : HasPlaces topology.places.items homes piece.count = subst (λ (l : List (ℕ × ℕ)). HasPlaces l homes piece.count) (sym are) piece.places in
    let filled = fills piece.count has in
    record {
      placed = all_placed topology homes piece.count has filled many;
      slots = record { within = omega (arith, piece.within, many); slots = λ who here. all_numbers topology homes piece.count who has filled (omega (arith, here, piece.within)) ∙ sym (piece.slots who here) };
    }

-- ---- a table that passes is of boxes and channels of an engine

passed_places : (topology : Topology) → ArePlaced topology → HasPlaces topology.places.items (length topology.numbers.items) (λ who. length (numbers_of topology who))
passed_places topology are = record {
  placed = λ s below. numbered topology (place_in topology.places.items s).0 (place_in topology.places.items s).1 s (are.found s below);
  locals = λ s below. slice_get_within (numbers_of topology (place_in topology.places.items s).0) (place_in topology.places.items s).1 s (are.found s below);
  once = λ s t one two same.
      some_same s t (sym (are.found s one) ∙ (ap (λ (p : ℕ × ℕ). slice_get (numbers_of topology p.0) p.1) same ∙ are.found t two));
  all = λ who local here low.
      let s : ℕ = get_or (numbers_of topology who) local 0 in
      let at : slice_get topology.places.items s ≡ Some (who, local) = (are.placed who here).placed local s low (slice_get-get_or (numbers_of topology who) local 0 low) in
      (s, slice_get_within topology.places.items s (who, local) at, get_or_from_slice_get topology.places.items s (who, local) (0, 0) at);
  few = λ who here. (are.placed who here).few;
}

pub passed_piece : (topology : Topology) (boxes : List BoxState) (channels : List ChannelState) (homes : ℕ) → topology.places.items ≡ places_among channels → length topology.numbers.items ≡ homes → FitsBoxes topology boxes → IsPiece boxes channels homes
passed_piece topology boxes channels homes are many fits = record {
  count = λ who. length (numbers_of topology who);
  places = subst (λ (l : List (ℕ × ℕ)). HasPlaces l homes (λ who. length (numbers_of topology who))) are
      (subst (λ (n : ℕ). HasPlaces topology.places.items n (λ who. length (numbers_of topology who))) many (passed_places topology fits.placed));
  within = omega (arith, fits.slots.within, many);
  slots = λ who here. sym (fits.slots.slots who here);
}
