-- The lines of the channels of chains, one after the other.
use Rattle.std.proofs.Common.{◌≡◌, ℕ, suc, ◌+◌, ◌<◌, ◌≤◌, ◌==◌, Bool, true, false, nat_le, nat_lt, Option, Some, None, List, [], ◌∷◌, ◌++◌, codes, length, length-append, map, refl, sym, ap, ap₂, ◌∙◌, subst, append_assoc, append-nil, arith}
use Rattle.std.proofs.lemmas.List.{length-map, map-append}
use Rattle.std.specs.Option.{is_none, is_some}
use Rattle.mc_signal.specs.declared.Medium.{Medium}
use Rattle.mc_signal.specs.declared.Medium.TheVariants.{Audio}
use Rattle.mc_text.specs.NameLists.{place_of, slot_names}
use Rattle.mc_box.specs.BoxShapes.{BoxShapeState, no_shape}
use Rattle.mc_model.specs.Worlds.{ChannelState}
use Rattle.mc_plan.specs.Plans.{channel_between, slots_of}
use Rattle.mc_script.specs.Places.{are_same, has, is_misspelt, is_overlong}
use Rattle.mc_lines.specs.Forms.{IsInForm}
use Rattle.mc_lines.specs.Meaning.{entry_after, with_joined}
use Rattle.mc_lines.specs.Rules.{channel_rules, entry_fault, of_slots, rank}
use Rattle.mc_lines.specs.SoFar.{Declared}
use Rattle.mc_lines.specs.declared.section.Section.{Section}
use Rattle.mc_lines.specs.declared.section.Section.TheVariants as section
use Rattle.mc_lines.specs.declared.tail.Tail.TheVariants.{Nothing}
use Rattle.mc_lines.proofs.Joining.{in_form_with_channel}
use Rattle.mc_program_lines.specs.Programs.{◌>>=◌}
use Rattle.mc_scene_laws.specs.ChainTexts.{eight_codecs}
use Rattle.mc_scene_laws.specs.Posts.{Post, at_left, at_right, between, channel_to_right, channels_from, post_box, post_kind, post_media, post_name, post_shape, post_slots, slot_to_right}
use Rattle.mc_scene_laws.specs.SceneTexts.{audio_channel}
use Rattle.mc_scene_laws.proofs.BoxLines.{bare_shape, no_slots}
use Rattle.mc_scene_laws.proofs.Entering.{Enters}
use Rattle.mc_scene_laws.proofs.Kept.{and_false, is_below, none_broken, or_false}
use Rattle.mc_scene_laws.proofs.Ordered.{AreOrdered, few_posts, post_is_found}
use Rattle.mc_scene_laws.proofs.Seams.{both_changed, changed, first_there, second_there}

-- ---- lines

-- the slot towards the right, and the one towards the left
abbrev pub word_to_right : Post → List ℕ
word_to_right (at_left chain) = codes "s"
word_to_right (between chain place) = codes "e"
word_to_right (at_right chain) = codes "s"

abbrev pub word_to_left : Post → List ℕ
word_to_left (at_left chain) = codes "s"
word_to_left (between chain place) = codes "w"
word_to_left (at_right chain) = codes "s"

abbrev pub channel_words : Post → Post → List (List ℕ)
channel_words near beyond = codes "chan" ∷ codes "audio" ∷ post_name near ∷ word_to_right near ∷ post_name beyond ∷ word_to_left beyond ∷ []

-- the line of the channel between two neighbours, if the chain goes on
abbrev pub lines_between : Post → Post → List (List (List ℕ))
lines_between (at_right chain) beyond = []
lines_between near beyond = channel_words near beyond ∷ []

abbrev pub lines_behind : Post → List Post → List (List (List ℕ))
lines_behind post [] = []
lines_behind post (next ∷ rest) = lines_between post next ++ lines_behind next rest

-- ---- neighbours

abbrev pub is_left : Post → Bool
is_left (at_left chain) = true
is_left (between chain place) = false
is_left (at_right chain) = false

abbrev pub is_right : Post → Bool
is_right (at_left chain) = false
is_right (between chain place) = false
is_right (at_right chain) = true

-- after a right device a chain begins, and after another box it goes on; the last box is a right device
abbrev pub GoesOn : Post → List Post → Type 0
GoesOn post [] = is_right post ≡ true
GoesOn post (next ∷ rest) = (is_left next ≡ is_right post) × GoesOn next rest

-- ---- what is declared

-- the slots of a box before its line towards the right
abbrev pub slots_before : Post → List (List ℕ)
slots_before (at_left chain) = []
slots_before (between chain place) = codes "w" ∷ []
slots_before (at_right chain) = codes "s" ∷ []

abbrev pub media_before : Post → List Medium
media_before (at_left chain) = []
media_before (between chain place) = Audio ∷ []
media_before (at_right chain) = Audio ∷ []

abbrev pub shape_before : Post → BoxShapeState
shape_before post = record { kind = post_kind post; media = media_before post; programmed = false }

-- all boxes, with these slots, shapes and channels
abbrev pub with_network : Section → List Post → List (List (List ℕ)) → List BoxShapeState → List ChannelState → Declared
with_network at all slots shape channels = record {
  tail = Nothing;
  section = at;
  versioned = true;
  sends_apart = false;
  begun = false;
  names = record { codecs = eight_codecs; boxes = map post_name all; slots = slots; told = [] };
  shape = shape;
  boxes = map post_box all;
  senders = [];
  channels = channels;
  blocks = [];
  commands = [];
}

-- the boxes before this one have all of their slots, and those after it none
abbrev pub joined_to : Section → List Post → List Post → Post → List Post → Declared
joined_to at all done post rest = with_network at all (map post_slots done ++ slots_before post ∷ map no_slots rest) (map post_shape done ++ shape_before post ∷ map bare_shape rest) (channels_from 0 done)

-- all boxes have
abbrev pub joined : Section → List Post → Declared
joined at all = with_network at all (map post_slots all) (map post_shape all) (channels_from 0 all)

-- ---- one channel

-- a box with a channel towards the right
pub record GoesRight (post : Post) : Type 0 where
  pub free : has (slots_before post) (Some (word_to_right post)) ≡ false
  pub slots : slots_before post ++ word_to_right post ∷ [] ≡ post_slots post
  pub media : media_before post ++ Audio ∷ [] ≡ post_media post
  pub room : nat_le 64 (length (slots_before post)) ≡ false
  pub number : length (slots_before post) ≡ slot_to_right post
  pub spelt : is_misspelt (Some (word_to_right post)) ≡ false
  pub short : is_overlong (Some (word_to_right post)) ≡ false
  pub channel : (who : ℕ) → channel_to_right who post ≡ audio_channel who (slot_to_right post) (who + 1) 0 ∷ []

pub goes_right : (post : Post) → is_right post ≡ false → GoesRight post
goes_right (at_left chain) goes = record { free = refl; slots = refl; media = refl; room = refl; number = refl; spelt = refl; short = refl; channel = λ who. refl }
goes_right (between chain place) goes = record { free = refl; slots = refl; media = refl; room = refl; number = refl; spelt = refl; short = refl; channel = λ who. refl }
goes_right (at_right chain) goes = absurd (cc)

-- a box with a channel from the left
pub record ComesLeft (post : Post) : Type 0 where
  pub slots : slots_before post ≡ word_to_left post ∷ []
  pub media : media_before post ≡ Audio ∷ []
  pub spelt : is_misspelt (Some (word_to_left post)) ≡ false
  pub short : is_overlong (Some (word_to_left post)) ≡ false

pub comes_left : (post : Post) → is_left post ≡ false → ComesLeft post
comes_left (at_left chain) comes = absurd (cc)
comes_left (between chain place) comes = record { slots = refl; media = refl; spelt = refl; short = refl }
comes_left (at_right chain) comes = record { slots = refl; media = refl; spelt = refl; short = refl }

-- channels of boxes, and of one more
pub channels-push : (who : ℕ) (done : List Post) (post : Post) → channels_from who (done ++ post ∷ []) ≡ channels_from who done ++ channel_to_right (who + length done) post
channels-push who [] post =
    let same : who ≡ who + 0 = omega arith in
    append-nil (channel_to_right who post) ∙ ap (λ (n : ℕ). channel_to_right n post) same
channels-push who (first ∷ done) post =
    let same : who + 1 + length done ≡ who + suc (length done) = omega arith in
    ap (λ (l : List ChannelState). channel_to_right who first ++ l) (channels-push (who + 1) done post ∙ ap (λ (n : ℕ). channels_from (who + 1) done ++ channel_to_right n post) same)
    ∙ sym (append_assoc (channel_to_right who first) (channels_from (who + 1) done) (channel_to_right (who + suc (length done)) post))

few_to_right : (who : ℕ) (post : Post) → length (channel_to_right who post) ≤ 1
few_to_right who (at_left chain) = omega arith
few_to_right who (between chain place) = omega arith
few_to_right who (at_right chain) = omega arith

pub few_channels : (who : ℕ) (done : List Post) → length (channels_from who done) ≤ length done
few_channels who [] = omega arith
few_channels who (post ∷ done) = omega (arith, length-append (channel_to_right who post) (channels_from (who + 1) done), few_to_right who post, few_channels (who + 1) done)

-- a box becomes another with one more slot
abbrev with_slot : List ℕ → List (List ℕ) → List (List ℕ)
with_slot word slots = slots ++ word ∷ []

abbrev with_one_medium : BoxShapeState → BoxShapeState
with_one_medium shape = record shape { media = shape.media ++ Audio ∷ [] }

module _ (all done : List Post) (post next : Post) (rest : List Post) (is : all ≡ done ++ post ∷ next ∷ rest) (ordered : AreOrdered 0 (done ++ post ∷ next ∷ rest)) (right : GoesRight post) (left : ComesLeft next) where
  near_found : place_of (map post_name all) (post_name post) ≡ Some (length done)
  near_found = ap (λ (posts : List Post). place_of (map post_name posts) (post_name post)) is ∙ post_is_found 0 done post (next ∷ rest) ordered

  beyond_found : place_of (map post_name all) (post_name next) ≡ Some (suc (length done))
  beyond_found =
      let seam = append_assoc done (post ∷ []) (next ∷ rest) in
      let counted : length (done ++ post ∷ []) ≡ suc (length done) = omega (arith, length-append done (post ∷ [])) in
      ap (λ (posts : List Post). place_of (map post_name posts) (post_name next)) (is ∙ sym seam)
      ∙ (post_is_found 0 (done ++ post ∷ []) next rest (subst (λ (posts : List Post). AreOrdered 0 posts) (sym seam) ordered) ∙ ap (λ (n : ℕ). Some n) counted)

  slots_counted : length done ≡ length (map post_slots done)
  slots_counted = sym (length-map done post_slots)

  shapes_counted : length done ≡ length (map post_shape done)
  shapes_counted = sym (length-map done post_shape)

  near_slots : (at : Section) → slot_names (joined_to at all done post (next ∷ rest)).names (length done) ≡ slots_before post
  near_slots at = first_there (map post_slots done) (map no_slots (next ∷ rest)) (slots_before post) [] (length done) slots_counted

  beyond_slots : (at : Section) → slot_names (joined_to at all done post (next ∷ rest)).names (suc (length done)) ≡ []
  beyond_slots at = second_there (map post_slots done) (map no_slots rest) (slots_before post) [] [] (length done) slots_counted

  few : suc (length done) < 250
  few =
      let most = few_posts 0 (done ++ post ∷ next ∷ rest) (omega arith) ordered in
      omega (arith, length-append done (post ∷ next ∷ rest))

  there : suc (length done) < length (map post_name all)
  there = omega (arith, length-map all post_name, ap (λ (posts : List Post). length posts) is, length-append done (post ∷ next ∷ rest))

  -- its line breaks no rule
  channel_sound : (at : Section) → nat_lt (rank section.Channels) (rank at) ≡ false → entry_fault (joined_to at all done post (next ∷ rest)) (channel_words post next) ≡ None
  channel_sound at early =
      none_broken (channel_rules (joined_to at all done post (next ∷ rest)) (codes "audio" ∷ post_name post ∷ word_to_right post ∷ post_name next ∷ word_to_left next ∷ [])) (
        or_false (is_none (place_of (map post_name all) (post_name post))) _ (ap is_none near_found) (ap is_none beyond_found),
        (
          or_false _ _ (or_false _ _ (or_false _ _ early refl) (and_false (is_some (place_of (map post_name all) (post_name post))) _ right.spelt)) (and_false (is_some (place_of (map post_name all) (post_name next))) _ left.spelt),
          (
            refl,
            (
              refl,
              (
                or_false _ _
                    (ap (λ (o : Option ℕ). of_slots (joined_to at all done post (next ∷ rest)).names o (λ slots. has slots (Some (word_to_right post)))) near_found ∙ (ap (λ (l : List (List ℕ)). has l (Some (word_to_right post))) (near_slots at) ∙ right.free))
                    (ap (λ (o : Option ℕ). of_slots (joined_to at all done post (next ∷ rest)).names o (λ slots. has slots (Some (word_to_left next)))) beyond_found ∙ ap (λ (l : List (List ℕ)). has l (Some (word_to_left next))) (beyond_slots at)),
                (
                  ap₂ are_same near_found beyond_found ∙ apart (length done),
                  (
                    or_false _ _ (or_false _ _
                        (ap (λ (o : Option ℕ). of_slots (joined_to at all done post (next ∷ rest)).names o (λ slots. nat_le 64 (length slots))) near_found ∙ (ap (λ (l : List (List ℕ)). nat_le 64 (length l)) (near_slots at) ∙ right.room))
                        (ap (λ (o : Option ℕ). of_slots (joined_to at all done post (next ∷ rest)).names o (λ slots. nat_le 64 (length slots))) beyond_found ∙ ap (λ (l : List (List ℕ)). nat_le 64 (length l)) (beyond_slots at)))
                        (is_below (length (channels_from 0 done)) 1024 (omega (arith, few_channels 0 done, few))),
                    (or_false _ _ (and_false (is_some (place_of (map post_name all) (post_name post))) _ right.short) (and_false (is_some (place_of (map post_name all) (post_name next))) _ left.short), tt),
                  ),
                ),
              ),
            ),
          ),
        ),
      )
    where
      apart : (n : ℕ) → (n == suc n) ≡ false
      apart n = grind arith

  -- ---- what it declares

  all_slots : changed (with_slot (word_to_left next)) [] (suc (length done)) (changed (with_slot (word_to_right post)) [] (length done) (map post_slots done ++ slots_before post ∷ map no_slots (next ∷ rest)))
      ≡ map post_slots (done ++ post ∷ []) ++ slots_before next ∷ map no_slots rest
  all_slots =
      both_changed (map post_slots done) (map no_slots rest) (slots_before post) [] [] (with_slot (word_to_right post)) (with_slot (word_to_left next)) (length done) slots_counted
      ∙ (ap₂ (λ (near beyond : List (List ℕ)). map post_slots done ++ near ∷ beyond ∷ map no_slots rest) right.slots (sym left.slots)
      ∙ (sym (append_assoc (map post_slots done) (post_slots post ∷ []) (slots_before next ∷ map no_slots rest))
      ∙ ap (λ (l : List (List (List ℕ))). l ++ slots_before next ∷ map no_slots rest) (sym (map-append post_slots done (post ∷ [])))))

  all_shapes : changed with_one_medium no_shape (suc (length done)) (changed with_one_medium no_shape (length done) (map post_shape done ++ shape_before post ∷ map bare_shape (next ∷ rest)))
      ≡ map post_shape (done ++ post ∷ []) ++ shape_before next ∷ map bare_shape rest
  all_shapes =
      both_changed (map post_shape done) (map bare_shape rest) (shape_before post) (bare_shape next) no_shape with_one_medium with_one_medium (length done) shapes_counted
      ∙ (ap₂ (λ (near beyond : List Medium). map post_shape done ++ record { kind = post_kind post; media = near; programmed = false } ∷ record { kind = post_kind next; media = beyond; programmed = false } ∷ map bare_shape rest) right.media (sym left.media)
      ∙ (sym (append_assoc (map post_shape done) (post_shape post ∷ []) (shape_before next ∷ map bare_shape rest))
      ∙ ap (λ (l : List BoxShapeState). l ++ shape_before next ∷ map bare_shape rest) (sym (map-append post_shape done (post ∷ [])))))

  all_channels : (at : Section) → IsInForm (joined_to at all done post (next ∷ rest)) → channels_from 0 done ++ channel_between (channels_from 0 done) (length done) (suc (length done)) (Audio ∷ []) ∷ [] ≡ channels_from 0 (done ++ post ∷ [])
  all_channels at form =
      let near : slots_of (channels_from 0 done) (length done) ≡ slot_to_right post = form.named.slots (length done) ∙ (ap (λ (l : List (List ℕ)). length l) (near_slots at) ∙ right.number) in
      let beyond : slots_of (channels_from 0 done) (suc (length done)) ≡ 0 = form.named.slots (suc (length done)) ∙ ap (λ (l : List (List ℕ)). length l) (beyond_slots at) in
      let next_one : suc (length done) ≡ length done + 1 = omega arith in
      let here : length done ≡ 0 + length done = omega arith in
      let one : channel_between (channels_from 0 done) (length done) (suc (length done)) (Audio ∷ []) ≡ audio_channel (length done) (slot_to_right post) (suc (length done)) 0 = ap₂ (λ (a b : ℕ). audio_channel (length done) a (suc (length done)) b) near beyond in
      ap (λ (c : ChannelState). channels_from 0 done ++ c ∷ []) (one ∙ ap (λ (n : ℕ). audio_channel (length done) (slot_to_right post) n 0) next_one)
      ∙ (ap (λ (l : List ChannelState). channels_from 0 done ++ l) (sym (right.channel (length done)) ∙ ap (λ (n : ℕ). channel_to_right n post) here)
      ∙ sym (channels-push 0 done post))

  next_is : (at : Section) → IsInForm (joined_to at all done post (next ∷ rest))
      → with_joined (joined_to at all done post (next ∷ rest)) Audio (length done) (word_to_right post) (suc (length done)) (word_to_left next) ≡ joined_to section.Channels all (done ++ post ∷ []) next rest
  next_is at form =
      ap (λ (slots : List (List (List ℕ))). with_network section.Channels all slots
      (changed with_one_medium no_shape (suc (length done)) (changed with_one_medium no_shape (length done) (map post_shape done ++ shape_before post ∷ map bare_shape (next ∷ rest))))
      (channels_from 0 done ++ channel_between (channels_from 0 done) (length done) (suc (length done)) (Audio ∷ []) ∷ [])) all_slots
      ∙ ap₂ (λ (shape : List BoxShapeState) (channels : List ChannelState). with_network section.Channels all (map post_slots (done ++ post ∷ []) ++ slots_before next ∷ map no_slots rest) shape channels) all_shapes (all_channels at form)

  -- its meaning, by the places of its boxes
  abbrev joins : Declared → Option ℕ → Option ℕ → Option Declared
  joins d from to = from >>= (λ f. to >>= (λ t. Some (with_joined d Audio f (word_to_right post) t (word_to_left next))))

  channel_means : (at : Section) → IsInForm (joined_to at all done post (next ∷ rest)) → entry_after (joined_to at all done post (next ∷ rest)) (channel_words post next) ≡ Some (joined_to section.Channels all (done ++ post ∷ []) next rest)
  channel_means at form =
      ap₂ (λ (from to : Option ℕ). joins (joined_to at all done post (next ∷ rest)) from to) near_found beyond_found
      ∙ ap (λ (d : Declared). Some d) (next_is at form)

  -- names and channels go on to fit
  pub channel_form : (at : Section) → IsInForm (joined_to at all done post (next ∷ rest)) → IsInForm (joined_to section.Channels all (done ++ post ∷ []) next rest)
  channel_form at form =
      subst IsInForm (next_is at form)
      (in_form_with_channel (joined_to at all done post (next ∷ rest)) Audio (length done) (word_to_right post) (suc (length done)) (word_to_left next) (omega (arith, there)) there form)

  -- the line of the channel
  pub channel_enters : (at : Section) → nat_lt (rank section.Channels) (rank at) ≡ false → IsInForm (joined_to at all done post (next ∷ rest))
      → Enters (joined_to at all done post (next ∷ rest)) (channel_words post next) (joined_to section.Channels all (done ++ post ∷ []) next rest)
  channel_enters at early form = record { sound = channel_sound at early; means = channel_means at form }
