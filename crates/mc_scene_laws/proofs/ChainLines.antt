-- The text of chains is that of its lines of words.
use Rattle.std.proofs.Common.{◌≡◌, ℕ, zero, suc, ◌+◌, ◌-◌, ◌==◌, false, List, [], ◌∷◌, ◌++◌, codes, flat_map, map, refl, sym, ap, ap₂, ◌∙◌, append_assoc, append-nil, arith}
use Rattle.std.proofs.lemmas.Grind.{flat_map-append}
use Rattle.std.proofs.lemmas.List.{map-append}
use Rattle.std.specs.List.{range_with_len}
use Rattle.mc_scene.specs.Generated.{batch_text, codecs_text, commands_text, network_text}
use Rattle.mc_scene.specs.Groups.{boxes_text, calls_text, channel_text, channels_text, chain_text, feature_name, feature_text, first_goal_word, group_text, left_name, link_text, near_name, near_slot, right_name}
use Rattle.mc_scene.specs.Lines.{words_line}
use Rattle.mc_scene.specs.declared.chains.Chain.{Chain}
use Rattle.mc_scene.specs.declared.groups.Group.TheVariants.{Boxes, Channels, Calls, Holds, Closes}
use Rattle.mc_scene_laws.specs.Posts.{Post, all_posts, at_left, at_right, between, chain_posts, post_name}
use Rattle.mc_scene_laws.proofs.BoxLines.{post_words}
use Rattle.mc_scene_laws.proofs.ChainCommands.{call_lines, close_lines, hold_lines, link_words, set_words}
use Rattle.mc_scene_laws.proofs.ChainOrder.{posts_behind}
use Rattle.mc_scene_laws.proofs.ChannelLines.{channel_words, lines_behind, lines_between, word_to_right}

-- ---- lists

each-map : {A B C : Type 0} (f : B → List C) (g : A → B) (xs : List A) → flat_map f (map g xs) ≡ flat_map (λ x. f (g x)) xs
each-map f g [] = refl
each-map {C} f g (x ∷ xs) = ap (λ (l : List C). f (g x) ++ l) (each-map f g xs)

each-each : {A B C : Type 0} (f : B → List C) (g : A → List B) (h : A → List C) → ((x : A) → flat_map f (g x) ≡ h x) → (xs : List A) → flat_map f (flat_map g xs) ≡ flat_map h xs
each-each f g h same [] = refl
each-each {C} f g h same (x ∷ xs) = flat_map-append f (g x) (flat_map g xs) ∙ ap₂ (λ (one two : List C). one ++ two) (same x) (each-each f g h same xs)

-- ---- boxes

features_are : (chain : Chain) (places : List ℕ) → flat_map words_line (map post_words (map (between chain) places)) ≡ flat_map (feature_text chain) places
features_are chain [] = refl
features_are chain (place ∷ places) = ap (λ (l : List ℕ). feature_text chain place ++ l) (features_are chain places)

-- the lines of the boxes of a chain
chain_boxes : (chain : Chain) → flat_map words_line (map post_words (chain_posts chain)) ≡ boxes_text chain
chain_boxes chain =
    let places = range_with_len 0 chain.features in
    let behind : flat_map words_line (map post_words (map (between chain) (range_with_len 0 chain.features) ++ at_right chain ∷ [])) ≡ flat_map (feature_text chain) (range_with_len 0 chain.features) ++ words_line (post_words (at_right chain)) =
    ap (λ (l : List (List (List ℕ))). flat_map words_line l) (map-append post_words (map (between chain) (range_with_len 0 chain.features)) (at_right chain ∷ []))
    ∙ (flat_map-append words_line (map post_words (map (between chain) (range_with_len 0 chain.features))) (post_words (at_right chain) ∷ [])
    ∙ ap₂ (λ (one two : List ℕ). one ++ two) (features_are chain (range_with_len 0 chain.features)) (append-nil (words_line (post_words (at_right chain))))) in
    ap (λ (l : List ℕ). words_line (post_words (at_left chain)) ++ l) behind
    ∙ sym (append_assoc (words_line (post_words (at_left chain))) (flat_map (feature_text chain) (range_with_len 0 chain.features)) (words_line (post_words (at_right chain))))

pub box_lines_are : (chains : List Chain) → flat_map words_line (map post_words (all_posts chains)) ≡ group_text Boxes chains
box_lines_are [] = refl
box_lines_are (chain ∷ chains) =
    ap (λ (l : List (List (List ℕ))). flat_map words_line l) (map-append post_words (chain_posts chain) (all_posts chains))
    ∙ (flat_map-append words_line (map post_words (chain_posts chain)) (map post_words (all_posts chains))
    ∙ ap₂ (λ (one two : List ℕ). one ++ two) (chain_boxes chain) (box_lines_are chains))

-- ---- channels

near_next : (chain : Chain) (a : ℕ) → near_name chain (a + 1) ≡ feature_name chain a
near_next chain a =
    let some : (a + 1 == 0) ≡ false = grind arith in
    let same : a + 1 - 1 ≡ a = omega arith in
    rw (some, same) refl

slot_next : (a : ℕ) → near_slot (a + 1) ≡ codes "e"
slot_next a =
    let some : (a + 1 == 0) ≡ false = grind arith in
    rw some refl

abbrev to_feature : Chain → ℕ → List ℕ
to_feature chain place = channel_text chain place (feature_name chain place) (codes "w")

-- the channels from a box of a chain on
channels_are : (chain : Chain) (n a : ℕ) (post : Post) (rest : List Post) → near_name chain a ≡ post_name post → near_slot a ≡ word_to_right post → ((next : Post) → lines_between post next ≡ channel_words post next ∷ [])
    → flat_map words_line (lines_behind post (map (between chain) (range_with_len a n) ++ at_right chain ∷ rest))
    ≡ (flat_map (to_feature chain) (range_with_len a n) ++ channel_text chain (a + n) (right_name chain) (codes "s")) ++ flat_map words_line (lines_behind (at_right chain) rest)
channels_are chain zero a post rest name slot goes =
    let same : a ≡ a + 0 = omega arith in
    ap (λ (l : List (List (List ℕ))). flat_map words_line (l ++ lines_behind (at_right chain) rest)) (goes (at_right chain))
    ∙ ap (λ (l : List ℕ). l ++ flat_map words_line (lines_behind (at_right chain) rest))
    (ap₂ (λ (one two : List ℕ). words_line (codes "chan" ∷ codes "audio" ∷ one ∷ two ∷ right_name chain ∷ codes "s" ∷ [])) (sym name) (sym slot)
    ∙ ap (λ (k : ℕ). channel_text chain k (right_name chain) (codes "s")) same)
channels_are chain (suc n) a post rest name slot goes =
    let same : a + 1 + n ≡ a + suc n = omega arith in
    let others = channels_are chain n (a + 1) (between chain a) rest (near_next chain a) (slot_next a) (λ next. refl) in
    let behind = lines_behind (between chain a) (map (between chain) (range_with_len (a + 1) n) ++ at_right chain ∷ rest) in
    ap (λ (l : List (List (List ℕ))). flat_map words_line (l ++ lines_behind (between chain a) (map (between chain) (range_with_len (a + 1) n) ++ at_right chain ∷ rest))) (goes (between chain a))
    ∙ (ap₂ (λ (one two : List ℕ). one ++ two)
    (ap₂ (λ (one two : List ℕ). words_line (codes "chan" ∷ codes "audio" ∷ one ∷ two ∷ feature_name chain a ∷ codes "w" ∷ [])) (sym name) (sym slot))
    (others ∙ ap (λ (k : ℕ). (flat_map (to_feature chain) (range_with_len (a + 1) n) ++ channel_text chain k (right_name chain) (codes "s")) ++ flat_map words_line (lines_behind (at_right chain) rest)) same)
    ∙ regroup (to_feature chain a) (flat_map (to_feature chain) (range_with_len (a + 1) n)) (channel_text chain (a + suc n) (right_name chain) (codes "s")) (flat_map words_line (lines_behind (at_right chain) rest)))
  where
    regroup : (one two three four : List ℕ) → one ++ ((two ++ three) ++ four) ≡ ((one ++ two) ++ three) ++ four
    regroup one two three four = simp append_assoc refl

-- the channels of a chain, and those of the chains after it
one_chain : (chains : List Chain) (chain : Chain) → flat_map words_line (lines_behind (at_right chain) (all_posts chains)) ≡ group_text Channels chains → flat_map words_line (lines_behind (at_left chain) (posts_behind chain chains)) ≡ group_text Channels (chain ∷ chains)
one_chain chains chain behind =
    let seam = append_assoc (map (between chain) (range_with_len 0 chain.features)) (at_right chain ∷ []) (all_posts chains) in
    let zero_first : 0 + chain.features ≡ chain.features = omega arith in
    ap (λ (posts : List Post). flat_map words_line (lines_behind (at_left chain) posts)) seam
    ∙ (channels_are chain chain.features 0 (at_left chain) (all_posts chains) refl refl (λ next. refl)
    ∙ (ap (λ (k : ℕ). (flat_map (to_feature chain) (range_with_len 0 chain.features) ++ channel_text chain k (right_name chain) (codes "s")) ++ flat_map words_line (lines_behind (at_right chain) (all_posts chains))) zero_first
    ∙ ap (λ (l : List ℕ). channels_text chain ++ l) behind))

pub channel_lines_are : (chains : List Chain) (chain : Chain) → flat_map words_line (lines_behind (at_left chain) (posts_behind chain chains)) ≡ group_text Channels (chain ∷ chains)
channel_lines_are [] chain = one_chain [] chain refl
channel_lines_are (next ∷ others) chain = one_chain (next ∷ others) chain (channel_lines_are others next)

-- ---- commands

chain_calls_are : (chain : Chain) → flat_map words_line (call_lines chain) ≡ calls_text chain
chain_calls_are chain =
    flat_map-append words_line (map (link_words chain) (range_with_len 0 chain.features)) (set_words (left_name chain) (codes "open") ∷ set_words (right_name chain) (first_goal_word chain.goal) ∷ [])
    ∙ (ap₂ (λ (one two : List ℕ). one ++ two) (each-map words_line (link_words chain) (range_with_len 0 chain.features)) (two_lines (set_words (left_name chain) (codes "open")) (set_words (right_name chain) (first_goal_word chain.goal)))
    ∙ sym (append_assoc (flat_map (link_text chain) (range_with_len 0 chain.features)) (words_line (set_words (left_name chain) (codes "open"))) (words_line (set_words (right_name chain) (first_goal_word chain.goal)))))
  where
    two_lines : (one two : List (List ℕ)) → flat_map words_line (one ∷ two ∷ []) ≡ words_line one ++ words_line two
    two_lines one two = ap (λ (l : List ℕ). words_line one ++ l) (append-nil (words_line two))

pub call_lines_are : (chains : List Chain) → flat_map words_line (flat_map call_lines chains) ≡ group_text Calls chains
call_lines_are chains = each-each words_line call_lines calls_text chain_calls_are chains

pub hold_lines_are : (chains : List Chain) → flat_map words_line (flat_map hold_lines chains) ≡ group_text Holds chains
hold_lines_are chains = each-each words_line hold_lines (chain_text Holds) (λ chain. append-nil (words_line (set_words (right_name chain) (codes "hold")))) chains

pub close_lines_are : (chains : List Chain) → flat_map words_line (flat_map close_lines chains) ≡ group_text Closes chains
close_lines_are chains = each-each words_line close_lines (chain_text Closes) (λ chain. append-nil (words_line (set_words (left_name chain) (codes "close")))) chains

-- ---- the whole text

abbrev pub header_lines : List (List (List ℕ))
header_lines =
    (codes "media" ∷ codes "1" ∷ [])
    ∷ (codes "codec" ∷ codes "c0" ∷ [])
    ∷ (codes "codec" ∷ codes "c1" ∷ [])
    ∷ (codes "codec" ∷ codes "c2" ∷ [])
    ∷ (codes "codec" ∷ codes "c3" ∷ [])
    ∷ (codes "codec" ∷ codes "c4" ∷ [])
    ∷ (codes "codec" ∷ codes "c5" ∷ [])
    ∷ (codes "codec" ∷ codes "c6" ∷ [])
    ∷ (codes "codec" ∷ codes "c7" ∷ [])
    ∷ []

header_is : flat_map words_line header_lines ≡ codecs_text
header_is = refl

abbrev pub network_lines : Chain → List Chain → List (List (List ℕ))
network_lines chain chains = header_lines ++ (map post_words (all_posts (chain ∷ chains)) ++ (lines_behind (at_left chain) (posts_behind chain chains) ++ (codes "begin" ∷ []) ∷ []))

abbrev pub batch_lines : (Chain → List (List (List ℕ))) → List Chain → List (List (List ℕ))
batch_lines some chains = flat_map some chains ++ (codes "settle" ∷ []) ∷ []

abbrev pub script_lines : List Chain → List (List (List ℕ))
script_lines chains = batch_lines call_lines chains ++ (batch_lines hold_lines chains ++ batch_lines close_lines chains)

two_texts : (one two : List (List (List ℕ))) (first second : List ℕ) → flat_map words_line one ≡ first → flat_map words_line two ≡ second → flat_map words_line (one ++ two) ≡ first ++ second
two_texts one two first second is there = flat_map-append words_line one two ∙ ap₂ (λ (a b : List ℕ). a ++ b) is there

one_line : (some : List (List ℕ)) → flat_map words_line (some ∷ []) ≡ words_line some
one_line some = append-nil (words_line some)

network_is : (chain : Chain) (chains : List Chain) → flat_map words_line (network_lines chain chains) ≡ network_text (chain ∷ chains)
network_is chain chains =
    let channels = two_texts (lines_behind (at_left chain) (posts_behind chain chains)) ((codes "begin" ∷ []) ∷ []) (group_text Channels (chain ∷ chains)) (words_line (codes "begin" ∷ [])) (channel_lines_are chains chain) (one_line (codes "begin" ∷ [])) in
    let boxes = two_texts (map post_words (all_posts (chain ∷ chains))) (lines_behind (at_left chain) (posts_behind chain chains) ++ (codes "begin" ∷ []) ∷ []) (group_text Boxes (chain ∷ chains)) (group_text Channels (chain ∷ chains) ++ words_line (codes "begin" ∷ [])) (box_lines_are (chain ∷ chains)) channels in
    two_texts header_lines (map post_words (all_posts (chain ∷ chains)) ++ (lines_behind (at_left chain) (posts_behind chain chains) ++ (codes "begin" ∷ []) ∷ [])) codecs_text
    (group_text Boxes (chain ∷ chains) ++ (group_text Channels (chain ∷ chains) ++ words_line (codes "begin" ∷ []))) header_is boxes
    ∙ regroup codecs_text (group_text Boxes (chain ∷ chains)) (group_text Channels (chain ∷ chains)) (words_line (codes "begin" ∷ []))
  where
    regroup : (one two three four : List ℕ) → one ++ (two ++ (three ++ four)) ≡ one ++ two ++ three ++ four
    regroup one two three four = simp append_assoc refl

script_is : (chains : List Chain) → flat_map words_line (script_lines chains) ≡ commands_text chains
script_is chains =
    two_texts (batch_lines call_lines chains) (batch_lines hold_lines chains ++ batch_lines close_lines chains) (batch_text Calls chains) (batch_text Holds chains ++ batch_text Closes chains) (two_texts (flat_map call_lines chains) ((codes "settle" ∷ []) ∷ []) (group_text Calls chains) (words_line (codes "settle" ∷ [])) (call_lines_are chains) (one_line (codes "settle" ∷ [])))
    (two_texts (batch_lines hold_lines chains) (batch_lines close_lines chains) (batch_text Holds chains) (batch_text Closes chains)
    (two_texts (flat_map hold_lines chains) ((codes "settle" ∷ []) ∷ []) (group_text Holds chains) (words_line (codes "settle" ∷ [])) (hold_lines_are chains) (one_line (codes "settle" ∷ [])))
    (two_texts (flat_map close_lines chains) ((codes "settle" ∷ []) ∷ []) (group_text Closes chains) (words_line (codes "settle" ∷ [])) (close_lines_are chains) (one_line (codes "settle" ∷ []))))
    ∙ sym (append_assoc (batch_text Calls chains) (batch_text Holds chains) (batch_text Closes chains))

-- the text of chains, line by line
pub text_is : (chain : Chain) (chains : List Chain) → flat_map words_line (network_lines chain chains ++ script_lines (chain ∷ chains)) ≡ network_text (chain ∷ chains) ++ commands_text (chain ∷ chains)
text_is chain chains = two_texts (network_lines chain chains) (script_lines (chain ∷ chains)) (network_text (chain ∷ chains)) (commands_text (chain ∷ chains)) (network_is chain chains) (script_is (chain ∷ chains))
