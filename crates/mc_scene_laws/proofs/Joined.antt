-- All channels of chains, box by box.
use Rattle.std.proofs.Common.{◌≡◌, ℕ, zero, suc, ◌+◌, true, false, nat_lt, List, [], ◌∷◌, ◌++◌, length, map, slice_index_or, refl, sym, ap, ap₂, ◌∙◌, subst, append_assoc, append-nil, arith}
use Rattle.std.proofs.lemmas.List.{length-map, map-append}
use Rattle.mc_box.specs.BoxShapes.{BoxShapeState, shape_of}
use Rattle.mc_model.specs.Worlds.{ChannelState}
use Rattle.mc_lines.specs.Forms.{IsInForm, IsOpenIn}
use Rattle.mc_lines.specs.Rules.{open_block, rank}
use Rattle.mc_lines.specs.SoFar.{Declared}
use Rattle.mc_lines.specs.declared.section.Section.{Section}
use Rattle.mc_lines.specs.declared.section.Section.TheVariants as section
use Rattle.mc_scene_laws.specs.Posts.{Post, at_left, at_right, between, channel_to_right, channels_from, post_box, post_name, post_shape, post_slots}
use Rattle.mc_scene_laws.proofs.BoxLines.{bare_shape, no_slots, with_posts}
use Rattle.mc_scene_laws.proofs.ChannelLines.{GoesOn, channel_enters, channel_form, channel_words, channels-push, comes_left, goes_right, is_left, is_right, joined, joined_to, lines_behind, lines_between, shape_before, slots_before, with_network}
use Rattle.mc_scene_laws.proofs.Entering.{Enter}
use Rattle.mc_scene_laws.proofs.Ordered.{AreOrdered}

-- ---- before the first channel

no_slots_at : (posts : List Post) (who : ℕ) → slice_index_or (map no_slots posts) who [] ≡ []
no_slots_at [] who = refl
no_slots_at (post ∷ posts) zero = refl
no_slots_at (post ∷ posts) (suc who) = no_slots_at posts who

no_media_at : (posts : List Post) (who : ℕ) → (shape_of (map bare_shape posts) who).media ≡ []
no_media_at [] who = refl
no_media_at (post ∷ posts) zero = refl
no_media_at (post ∷ posts) (suc who) = no_media_at posts who

-- boxes without slots are in form
pub posts_in_form : (at : Section) (posts : List Post) → nat_lt (rank section.Boxes) (rank at) ≡ false → IsInForm (with_posts at posts)
posts_in_form at posts early = record {
  fits = record {
    boxes = length-map posts bare_shape ∙ sym (length-map posts post_name);
    slots = λ who within. ap length (no_media_at posts who) ∙ sym (ap length (no_slots_at posts who));
  };
  named = record {
    listed = length-map posts no_slots ∙ sym (length-map posts post_name);
    boxes = length-map posts post_box ∙ sym (length-map posts post_name);
    slots = λ who. sym (ap length (no_slots_at posts who));
  };
  block = not_open at;
}
  where
    not_open : (at : Section) → IsOpenIn (with_posts at posts).names (open_block (with_posts at posts))
    not_open section.Version = tt
    not_open section.Codecs = tt
    not_open section.Boxes = tt
    not_open section.Channels = tt
    not_open section.Programs = tt
    not_open section.Begin = tt
    not_open section.Commands = tt

-- ---- between two chains

-- after a right device no slot is new
no_channel_is : (at : Section) (all done : List Post) (post next : Post) (rest : List Post) → slots_before post ≡ post_slots post → shape_before post ≡ post_shape post → channel_to_right (0 + length done) post ≡ []
    → slots_before next ≡ [] → shape_before next ≡ bare_shape next → joined_to at all done post (next ∷ rest) ≡ joined_to at all (done ++ post ∷ []) next rest
no_channel_is at all done post next rest slots shape none next_slots next_shape =
    let all_slots : map post_slots done ++ slots_before post ∷ map no_slots (next ∷ rest) ≡ map post_slots (done ++ post ∷ []) ++ slots_before next ∷ map no_slots rest =
    ap₂ (λ (one two : List (List ℕ)). map post_slots done ++ one ∷ two ∷ map no_slots rest) slots (sym next_slots)
    ∙ (sym (append_assoc (map post_slots done) (post_slots post ∷ []) (slots_before next ∷ map no_slots rest))
    ∙ ap (λ (l : List (List (List ℕ))). l ++ slots_before next ∷ map no_slots rest) (sym (map-append post_slots done (post ∷ [])))) in
    let all_shapes : map post_shape done ++ shape_before post ∷ map bare_shape (next ∷ rest) ≡ map post_shape (done ++ post ∷ []) ++ shape_before next ∷ map bare_shape rest =
    ap₂ (λ (one two : BoxShapeState). map post_shape done ++ one ∷ two ∷ map bare_shape rest) shape (sym next_shape)
    ∙ (sym (append_assoc (map post_shape done) (post_shape post ∷ []) (shape_before next ∷ map bare_shape rest))
    ∙ ap (λ (l : List BoxShapeState). l ++ shape_before next ∷ map bare_shape rest) (sym (map-append post_shape done (post ∷ [])))) in
    let all_channels : channels_from 0 done ≡ channels_from 0 (done ++ post ∷ []) =
    sym (append-nil (channels_from 0 done)) ∙ (ap (λ (l : List ChannelState). channels_from 0 done ++ l) (sym none) ∙ sym (channels-push 0 done post)) in
    ap (λ (l : List (List (List ℕ))). with_network at all l (map post_shape done ++ shape_before post ∷ map bare_shape (next ∷ rest)) (channels_from 0 done)) all_slots
    ∙ ap₂ (λ (shapes : List BoxShapeState) (channels : List ChannelState). with_network at all (map post_slots (done ++ post ∷ []) ++ slots_before next ∷ map no_slots rest) shapes channels) all_shapes all_channels

-- after the last box all are joined
last_is : (at : Section) (all done : List Post) (post : Post) → all ≡ done ++ post ∷ [] → slots_before post ≡ post_slots post → shape_before post ≡ post_shape post → channel_to_right (0 + length done) post ≡ [] → joined_to at all done post [] ≡ joined at all
last_is at all done post is slots shape none =
    let all_slots : map post_slots done ++ slots_before post ∷ [] ≡ map post_slots all =
    ap (λ (one : List (List ℕ)). map post_slots done ++ one ∷ []) slots ∙ (sym (map-append post_slots done (post ∷ [])) ∙ ap (map post_slots) (sym is)) in
    let all_shapes : map post_shape done ++ shape_before post ∷ [] ≡ map post_shape all =
    ap (λ (one : BoxShapeState). map post_shape done ++ one ∷ []) shape ∙ (sym (map-append post_shape done (post ∷ [])) ∙ ap (map post_shape) (sym is)) in
    let all_channels : channels_from 0 done ≡ channels_from 0 all =
    sym (append-nil (channels_from 0 done)) ∙ (ap (λ (l : List ChannelState). channels_from 0 done ++ l) (sym none) ∙ (sym (channels-push 0 done post) ∙ ap (channels_from 0) (sym is))) in
    ap (λ (l : List (List (List ℕ))). with_network at all l (map post_shape done ++ shape_before post ∷ []) (channels_from 0 done)) all_slots
    ∙ ap₂ (λ (shapes : List BoxShapeState) (channels : List ChannelState). with_network at all (map post_slots all) shapes channels) all_shapes all_channels

-- ---- all of them

-- what lines of channels come to: they leave a section, no later than that of channels
pub record AllJoined (start : Declared) (lines : List (List (List ℕ))) (all : List Post) : Type 0 where
  pub last : Section
  pub early : nat_lt (rank section.Channels) (rank last) ≡ false
  pub enter : Enter start lines (joined last all)

-- what is known of a box at which channels go on
record Stands (at : Section) (all done : List Post) (post : Post) (rest : List Post) : Type 0 where
  pub early : nat_lt (rank section.Channels) (rank at) ≡ false
  pub is : all ≡ done ++ post ∷ rest
  pub ordered : AreOrdered 0 (done ++ post ∷ rest)
  pub form : IsInForm (joined_to at all done post rest)

-- the next box stands where the line before it leads
stands_next : (at : Section) (all done : List Post) (post next : Post) (rest : List Post) → nat_lt (rank section.Channels) (rank at) ≡ false → all ≡ done ++ post ∷ next ∷ rest → AreOrdered 0 (done ++ post ∷ next ∷ rest)
    → IsInForm (joined_to at all (done ++ post ∷ []) next rest) → Stands at all (done ++ post ∷ []) next rest
stands_next at all done post next rest early is ordered form =
    let seam = append_assoc done (post ∷ []) (next ∷ rest) in
    record { early = early; is = is ∙ sym seam; ordered = subst (λ (posts : List Post). AreOrdered 0 posts) (sym seam) ordered; form = form }

-- with a channel
joins_one : (rest : List Post) (at : Section) (all done : List Post) (post next : Post) → is_right post ≡ false → is_left next ≡ false → lines_between post next ≡ channel_words post next ∷ []
    → GoesOn next rest → Stands at all done post (next ∷ rest) → (Stands section.Channels all (done ++ post ∷ []) next rest → AllJoined (joined_to section.Channels all (done ++ post ∷ []) next rest) (lines_behind next rest) all)
    → AllJoined (joined_to at all done post (next ∷ rest)) (lines_behind post (next ∷ rest)) all
joins_one rest at all done post next right left line goes stands more =
    let near = goes_right post right in
    let beyond = comes_left next left in
    let here = channel_enters all done post next rest stands.is stands.ordered near beyond at stands.early stands.form in
    let form = channel_form all done post next rest stands.is stands.ordered near beyond at stands.form in
    let others = more (stands_next section.Channels all done post next rest refl stands.is stands.ordered form) in
    record {
      last = others.last;
      early = others.early;
      enter = subst (λ (l : List (List (List ℕ))). Enter (joined_to at all done post (next ∷ rest)) (l ++ lines_behind next rest) (joined others.last all)) (sym line)
          (joined_to section.Channels all (done ++ post ∷ []) next rest, here, others.enter);
    }

all_join : (rest : List Post) (at : Section) (all done : List Post) (post : Post) → GoesOn post rest → Stands at all done post rest → AllJoined (joined_to at all done post rest) (lines_behind post rest) all
all_join [] at all done (at_left chain) goes stands = absurd (cc)
all_join [] at all done (between chain place) goes stands = absurd (cc)
all_join [] at all done (at_right chain) goes stands = record { last = at; early = stands.early; enter = last_is at all done (at_right chain) stands.is refl refl refl }
all_join (at_left next ∷ rest) at all done (at_left chain) goes stands = absurd (let clash : true ≡ false = goes.0 in cc)
all_join (at_left next ∷ rest) at all done (between chain place) goes stands = absurd (let clash : true ≡ false = goes.0 in cc)
all_join (at_left next ∷ rest) at all done (at_right chain) goes stands =
    let same = no_channel_is at all done (at_right chain) (at_left next) rest refl refl refl refl refl in
    let form = subst IsInForm same stands.form in
    let others = all_join rest at all (done ++ at_right chain ∷ []) (at_left next) goes.1 (stands_next at all done (at_right chain) (at_left next) rest stands.early stands.is stands.ordered form) in
    record { last = others.last; early = others.early; enter = subst (λ (d : Declared). Enter d (lines_behind (at_left next) rest) (joined others.last all)) (sym same) others.enter }
all_join (between next where_to ∷ rest) at all done (at_right chain) goes stands = absurd (let clash : false ≡ true = goes.0 in cc)
all_join (at_right next ∷ rest) at all done (at_right chain) goes stands = absurd (let clash : false ≡ true = goes.0 in cc)
all_join (between next where_to ∷ rest) at all done (at_left chain) goes stands =
    joins_one rest at all done (at_left chain) (between next where_to) refl refl refl goes.1 stands (all_join rest section.Channels all (done ++ at_left chain ∷ []) (between next where_to) goes.1)
all_join (between next where_to ∷ rest) at all done (between chain place) goes stands =
    joins_one rest at all done (between chain place) (between next where_to) refl refl refl goes.1 stands (all_join rest section.Channels all (done ++ between chain place ∷ []) (between next where_to) goes.1)
all_join (at_right next ∷ rest) at all done (at_left chain) goes stands =
    joins_one rest at all done (at_left chain) (at_right next) refl refl refl goes.1 stands (all_join rest section.Channels all (done ++ at_left chain ∷ []) (at_right next) goes.1)
all_join (at_right next ∷ rest) at all done (between chain place) goes stands =
    joins_one rest at all done (between chain place) (at_right next) refl refl refl goes.1 stands (all_join rest section.Channels all (done ++ between chain place ∷ []) (at_right next) goes.1)

-- the channels of chains, from the first box on
pub channels_enter : (chain_first : Post) (rest : List Post) (at : Section) → nat_lt (rank section.Boxes) (rank at) ≡ false → is_left chain_first ≡ true → GoesOn chain_first rest → AreOrdered 0 (chain_first ∷ rest)
    → AllJoined (with_posts at (chain_first ∷ rest)) (lines_behind chain_first rest) (chain_first ∷ rest)
channels_enter (at_left chain) rest at early left goes ordered =
    all_join rest at (at_left chain ∷ rest) [] (at_left chain) goes (record { early = no_later (rank at) early; is = refl; ordered = ordered; form = posts_in_form at (at_left chain ∷ rest) early })
  where
    no_later : (n : ℕ) → nat_lt 2 n ≡ false → nat_lt 3 n ≡ false
    no_later n early = grind arith
channels_enter (between chain place) rest at early left goes ordered = absurd (cc)
channels_enter (at_right chain) rest at early left goes ordered = absurd (cc)
