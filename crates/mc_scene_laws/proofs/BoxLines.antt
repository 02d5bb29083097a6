-- The lines of the boxes of chains, one after the other.
use Rattle.std.proofs.Common.{◌≡◌, ℕ, ◌<◌, true, false, nat_le, nat_lt, Some, None, List, [], ◌∷◌, ◌++◌, codes, length, map, refl, sym, ap, ap₂, ◌∙◌, subst, append_assoc, append-nil, arith}
use Rattle.std.proofs.lemmas.List.{length-map, map-append}
use Rattle.std.specs.Option.{is_some}
use Rattle.mc_box.specs.BoxShapes.{BoxShapeState}
use Rattle.mc_box.specs.declared.event.Kind.TheVariants.{Device}
use Rattle.mc_text.specs.NameLists.{place_of}
use Rattle.mc_text.specs.Spelling.{is_name}
use Rattle.mc_lines.specs.Meaning.{device_in, entry_after, new_feature, new_shape, with_new_box}
use Rattle.mc_lines.specs.Rules.{device_rules, entry_fault, feature_rules, rank}
use Rattle.mc_lines.specs.SoFar.{Declared, DeclaredBox}
use Rattle.mc_lines.specs.declared.section.Section.{Section}
use Rattle.mc_lines.specs.declared.section.Section.TheVariants as section
use Rattle.mc_lines.specs.declared.tail.Tail.TheVariants.{Nothing}
use Rattle.mc_scene.specs.Chains.{run_codecs}
use Rattle.mc_scene.specs.Groups.{feature_name, left_name, right_name}
use Rattle.mc_scene.specs.declared.chains.CodecRun.{CodecRun}
use Rattle.mc_scene_laws.specs.ChainTexts.{IsRun, eight_codecs}
use Rattle.mc_scene_laws.specs.Posts.{Post, at_left, at_right, between, post_box, post_kind, post_name}
use Rattle.mc_scene_laws.specs.SceneTexts.{device_with}
use Rattle.mc_scene_laws.proofs.Entering.{Enter, Enters}
use Rattle.mc_scene_laws.proofs.Kept.{is_below, name_is_good, none_broken, or_false}
use Rattle.mc_scene_laws.proofs.Names.{IsPlaced, post_is_named}
use Rattle.mc_scene_laws.proofs.Ordered.{AreOrdered, few_posts, is_placed_in, ordered_before, post_is_new}
use Rattle.mc_scene_laws.proofs.Runs.{run_is_read, run_words}

-- ---- lines

abbrev pub post_words : Post → List (List ℕ)
post_words (at_left chain) = codes "dev" ∷ left_name chain ∷ run_words chain.left
post_words (between chain place) = codes "feat" ∷ feature_name chain place ∷ []
post_words (at_right chain) = codes "dev" ∷ right_name chain ∷ run_words chain.right

-- ---- what they declare

abbrev pub no_slots : Post → List (List ℕ)
no_slots post = []

abbrev pub bare_shape : Post → BoxShapeState
bare_shape post = new_shape (post_kind post)

-- boxes without slots, by lines up to this section
abbrev pub with_posts : Section → List Post → Declared
with_posts at done = record {
  tail = Nothing;
  section = at;
  versioned = true;
  sends_apart = false;
  begun = false;
  names = record { codecs = eight_codecs; boxes = map post_name done; slots = map no_slots done; told = [] };
  shape = map bare_shape done;
  boxes = map post_box done;
  senders = [];
  channels = [];
  blocks = [];
  commands = [];
}

one_kind : (post : Post) → (post_box post).kind ≡ post_kind post
one_kind (at_left chain) = refl
one_kind (between chain place) = refl
one_kind (at_right chain) = refl

box_added : (at : Section) (done : List Post) (post : Post) → with_new_box (with_posts at done) (post_name post) (post_box post) ≡ with_posts section.Boxes (done ++ post ∷ [])
box_added at done post = rw (map-append post_name done (post ∷ []), map-append no_slots done (post ∷ []), map-append bare_shape done (post ∷ []), map-append post_box done (post ∷ []), one_kind post) refl

-- ---- devices

module _ (at : Section) (early : nat_lt (rank section.Boxes) (rank at) ≡ false) (done : List Post) (few : length done < 256) where
  room : nat_le 256 (length (map post_name done)) ≡ false
  room = is_below (length (map post_name done)) 256 (omega (arith, length-map done post_name))

  device_sound : (name : List ℕ) (run : CodecRun) → IsRun run → is_name name ≡ true → place_of (map post_name done) name ≡ None → entry_fault (with_posts at done) (codes "dev" ∷ name ∷ run_words run) ≡ None
  device_sound name run is named new =
      let read = run_is_read run is in
      let good = name_is_good name named in
      none_broken (device_rules (with_posts at done) (name ∷ run_words run)) (
        read.known,
        (
          or_false (nat_lt (rank section.Boxes) (rank at)) _ early good.spelt,
          (
            refl,
            (
              read.version,
              (
                or_false (is_some (place_of (map post_name done) name)) _ (ap is_some new) read.once,
                (
                  or_false (nat_le 256 (length (map post_name done))) _ room read.few,
                  (good.short, tt),
                ),
              ),
            ),
          ),
        ),
      )

  device_is : (run : CodecRun) → IsRun run → device_in (with_posts at done).names (run_words run) ≡ device_with (run_codecs run)
  device_is run is =
      let read = run_is_read run is in
      ap₂ (λ (version : ℕ) (listed : List ℕ). record { kind = Device; version = version; receives = listed; sends = listed }) read.first read.numbers

  device_means : (name : List ℕ) (run : CodecRun) → IsRun run → entry_after (with_posts at done) (codes "dev" ∷ name ∷ run_words run) ≡ Some (with_new_box (with_posts at done) name (device_with (run_codecs run)))
  device_means name run is = ap (λ (box : DeclaredBox). Some (with_new_box (with_posts at done) name box)) (device_is run is)

  feature_sound : (name : List ℕ) → is_name name ≡ true → place_of (map post_name done) name ≡ None → entry_fault (with_posts at done) (codes "feat" ∷ name ∷ []) ≡ None
  feature_sound name named new =
      let good = name_is_good name named in
      none_broken (feature_rules (with_posts at done) (name ∷ []))
      (or_false (nat_lt (rank section.Boxes) (rank at)) _ early good.spelt, (refl, (refl, (ap is_some new, (room, (good.short, tt))))))

  feature_means : (name : List ℕ) → entry_after (with_posts at done) (codes "feat" ∷ name ∷ []) ≡ Some (with_new_box (with_posts at done) name new_feature)
  feature_means name = refl

  -- the line of a box
  post_enters : (post : Post) → IsPlaced post → place_of (map post_name done) (post_name post) ≡ None → Enters (with_posts at done) (post_words post) (with_posts section.Boxes (done ++ post ∷ []))
  post_enters (at_left chain) placed new = record {
    sound = device_sound (left_name chain) chain.left placed.1 (post_is_named (at_left chain) placed) new;
    means = device_means (left_name chain) chain.left placed.1 ∙ ap (λ (d : Declared). Some d) (box_added at done (at_left chain));
  }
  post_enters (between chain place) placed new = record {
    sound = feature_sound (feature_name chain place) (post_is_named (between chain place) placed) new;
    means = feature_means (feature_name chain place) ∙ ap (λ (d : Declared). Some d) (box_added at done (between chain place));
  }
  post_enters (at_right chain) placed new = record {
    sound = device_sound (right_name chain) chain.right placed.1 (post_is_named (at_right chain) placed) new;
    means = device_means (right_name chain) chain.right placed.1 ∙ ap (λ (d : Declared). Some d) (box_added at done (at_right chain));
  }

-- ---- all boxes

-- what lines of boxes come to: they leave a section, no later than that of boxes
pub record Boxed (start : Declared) (lines : List (List (List ℕ))) (posts : List Post) : Type 0 where
  pub last : Section
  pub early : nat_lt (rank section.Boxes) (rank last) ≡ false
  pub enter : Enter start lines (with_posts last posts)

pub boxes_enter : (rest : List Post) (at : Section) (done : List Post) → nat_lt (rank section.Boxes) (rank at) ≡ false → AreOrdered 0 (done ++ rest) → Boxed (with_posts at done) (map post_words rest) (done ++ rest)
boxes_enter [] at done early ordered = record { last = at; early = early; enter = ap (λ (posts : List Post). with_posts at posts) (sym (append-nil done)) }
boxes_enter (post ∷ rest) at done early ordered =
    let placed = (is_placed_in 0 done post rest ordered).1 in
    let few = few_posts 0 done (omega arith) (ordered_before 0 done (post ∷ rest) ordered) in
    let here = post_enters at early done (omega arith) post placed (post_is_new 0 done post rest ordered) in
    let seam = append_assoc done (post ∷ []) rest in
    let others = boxes_enter rest section.Boxes (done ++ post ∷ []) refl (subst (λ (posts : List Post). AreOrdered 0 posts) (sym seam) ordered) in
    record {
      last = others.last;
      early = others.early;
      enter = (with_posts section.Boxes (done ++ post ∷ []), here, subst (λ (posts : List Post). Enter (with_posts section.Boxes (done ++ post ∷ [])) (map post_words rest) (with_posts others.last posts)) seam others.enter);
    }
