-- After each line after `grow` that breaks no rule, each item may come after those before it, and what is declared is that of the network then.
use Rattle.std.proofs.Common.{◌≡◌, ℕ, zero, suc, ◌+◌, ◌-◌, ◌<◌, ◌≤◌, Bool, true, false, not, nat_le, nat_lt, List, [], ◌∷◌, ◌++◌, drop, length, length-append, slice_index_or, Option, Some, None, refl, sym, ap, ◌∙◌, subst, arith}
use Rattle.std.specs.List.{list_any, slice_get}
use Rattle.std.specs.Option.{option_map, unwrap_or}
use Rattle.std.proofs.lemmas.List.{get_or_at}
use Rattle.mc_signal.specs.declared.Medium.{Medium}
use Rattle.mc_text.specs.Lines.{words}
use Rattle.mc_growth.specs.Growths.{GrownState}
use Rattle.mc_lines.proofs.FirstBroken.{all_before, has_room}
use Rattle.mc_lines.specs.Joins.{join_rules}
use Rattle.mc_lines.specs.Meaning.{channel_after, with_joined}
use Rattle.mc_lines.specs.Rules.{command_line_rules, is_pending, is_skipped, is_unfinished, passes_limit, spelt_medium, text_limit}
use Rattle.mc_lines.specs.SoFar.{Declared}
use Rattle.mc_lines.specs.declared.limit.TheConstants.{COMMAND_LIMIT}
use Rattle.mc_lines.specs.declared.tail.Tail.TheVariants.{Grow}
use Rattle.mc_model.specs.Worlds.{ChannelState}
use Rattle.mc_net.proofs.Enabled.{IsOfLine, line_enabled}
use Rattle.mc_plan.specs.Plans.{channel_between, last_channel, no_channel}
use Rattle.mc_program_lines.proofs.KeptRules.{others_kept}
use Rattle.mc_program_lines.specs.Programs.{◌>>=◌}
use Rattle.mc_script.specs.Meaning.{command_by}
use Rattle.mc_script.specs.Places.{box_named, spelt_value}
use Rattle.mc_script.specs.Rules.{byte_rules, is_plain, kind_rules, least_broken}
use Rattle.mc_script.specs.declared.command.Command.{Command}
use Rattle.mc_script.specs.declared.command.Command.TheVariants.{Stimulus, Settle}
use Rattle.mc_script.specs.declared.keyword.CommandWord.{CommandWord}
use Rattle.mc_script.specs.declared.rule.TheConstants.{LIMIT_PASSED, NO_SUCH_SLOT, UNFINISHED}
use Rattle.mc_tail.specs.Meaning.{join_of, line_command, line_cut, line_join, tail_after, tail_line_after, tail_words_after, with_channel_cut, with_channel_joined, with_line}
use Rattle.mc_tail.specs.Rules.{cut_rules, tail_command_rules, tail_kind_of, tail_line_fault, tail_rules, tail_words_rules}
use Rattle.mc_tail.specs.SoFar.{TailState, channel_named, names_out}
use Rattle.mc_tail.specs.Tails.{AreSoundTail, SaysTail, bytes_before_tail, tail_by, tail_lines, tail_start}
use Rattle.mc_tail.specs.declared.item.Item.{Item}
use Rattle.mc_tail.specs.declared.item.Item.TheVariants.{Cut, Join, Line}
use Rattle.mc_tail.specs.declared.keyword.TailKeyword.{TailKeyword}
use Rattle.mc_tail.specs.declared.keyword.TailKeyword.TheVariants as tail
use Rattle.mc_stage_plans.specs.Planned.{settled_parts}
use Rattle.mc_stage_plans.proofs.Acting.{MayCome, MayComeAll, after_items, after_push, come_push, commanded_by, commanded_push}
use Rattle.mc_stage_plans.proofs.Asked.{cut_settled, join_settled, may_cut, may_join, may_turn, named_below, not_also}
use Rattle.mc_stage_plans.proofs.Lawful.{parts_more}
use Rattle.mc_stage_plans.proofs.Likeness.{IsLike, cut_like, join_like}
use Rattle.mc_stage_plans.proofs.TailCommands.{command_names}

-- what lines keep, from a network on, of which so many batches came before
pub record Follows (network : GrownState) (count : ℕ) (t : TailState) : Type 0 where
  pub like : IsLike t.declared t.out (after_items network t.items)
  pub come : MayComeAll network false t.items
  pub pending : commanded_by false t.items ≡ true → is_pending t.declared.commands ≡ true
  pub parts : count + length (settled_parts t.items) ≤ length t.declared.commands
  pub few : length t.declared.commands ≤ COMMAND_LIMIT

-- what is declared, if anything is, keeps it
abbrev FollowsIf : GrownState → ℕ → Option TailState → Type 0
FollowsIf network count None = Unit {0}
FollowsIf network count (Some t) = Follows network count t

of_mapped : {A : Type 0} (network : GrownState) (count : ℕ) (f : A → TailState) (o : Option A) → ((x : A) → o ≡ Some x → Follows network count (f x)) → FollowsIf network count (option_map f o)
of_mapped network count f None each = tt
of_mapped network count f (Some x) each = each x refl

-- ---- commands

get_push : {A : Type 0} (xs : List A) (x : A) → slice_get (xs ++ x ∷ []) (length xs) ≡ Some x
get_push [] x = refl
get_push (one ∷ xs) x = get_push xs x

pending_push : (commands : List Command) (it : Command) → slice_get (commands ++ it ∷ []) (length (commands ++ it ∷ []) - 1) ≡ Some it
pending_push commands it =
    let last : length (commands ++ it ∷ []) - 1 ≡ length commands = omega (arith, length-append commands (it ∷ [])) in
    rw last (get_push commands it)

line_follows : (network : GrownState) (count : ℕ) (t : TailState) (it : Command) → Follows network count t → MayCome (after_items network t.items) (commanded_by false t.items) (Line it)
    → (commanded_by false (t.items ++ Line it ∷ []) ≡ true → is_pending (t.declared.commands ++ it ∷ []) ≡ true) → length (settled_parts (Line it ∷ [])) ≤ 1 → nat_le COMMAND_LIMIT (length t.declared.commands) ≡ false → Follows network count (with_line t it)
line_follows network count t it follows may pending part room =
    let below : length t.declared.commands < COMMAND_LIMIT = grind arith in
    let more = length-append t.declared.commands (it ∷ []) in
    record {
      like = subst (λ (n : GrownState). IsLike t.declared t.out n) (sym (after_push network t.items (Line it))) follows.like;
      come = come_push t.items (Line it) network false follows.come may;
      pending = pending;
      parts = omega (arith, follows.parts, part, more, parts_more t.items (Line it));
      few = omega (arith, below, more);
    }

command_follows : (network : GrownState) (count : ℕ) (t : TailState) (kind : CommandWord) (ws : List (List ℕ)) → Follows network count t → least_broken (tail_command_rules t kind ws) ≡ None → FollowsIf network count (line_command t kind ws)
command_follows network count t kind ws follows kept = of_mapped network count (with_line t) (command_by t.declared.names (Some kind) ws) (λ it means. by it means)
  where
    plain : least_broken (command_line_rules t.declared kind ws) ≡ None
    plain = not_also NO_SUCH_SLOT (names_out t kind ws) (command_line_rules t.declared kind ws) kept

    room : nat_le COMMAND_LIMIT (length t.declared.commands) ≡ false
    room = has_room t.declared kind ws plain

    of_line : (it : Command) → command_by t.declared.names (Some kind) ws ≡ Some it → IsOfLine t.declared.names t.declared.shape it
    of_line it means = record {
      kind = kind;
      words = ws;
      kept = all_before (kind_rules t.declared.names t.declared.shape (Some kind) ws) ((LIMIT_PASSED, nat_le COMMAND_LIMIT (length t.declared.commands)) ∷ (UNFINISHED, is_unfinished t.declared) ∷ []) plain;
      means = means;
    }

    by : (it : Command) → command_by t.declared.names (Some kind) ws ≡ Some it → Follows network count (with_line t it)
    by (Stimulus turn) means =
        line_follows network count t (Stimulus turn) follows
        (may_turn t.declared t.out (after_items network t.items) turn follows.like (line_enabled t.declared.names t.declared.shape follows.like.fits (Stimulus turn) (of_line (Stimulus turn) means)) (command_names t kind ws (Stimulus turn) kept means))
        (λ on. rw (pending_push t.declared.commands (Stimulus turn)) refl) (omega arith) room
    by Settle means =
        line_follows network count t Settle follows tt
        (λ on. absurd (let off : commanded_by false (t.items ++ Line Settle ∷ []) ≡ false = commanded_push t.items (Line Settle) false in let clash : true ≡ false = sym on ∙ off in cc)) (omega arith) room

-- ---- joins and cuts

off_by : (b pending : Bool) → (b ≡ true → pending ≡ true) → pending ≡ false → b ≡ false
off_by true pending on off = absurd (let clash : true ≡ false = sym (on refl) ∙ off in cc)
off_by false pending on off = refl

-- what a `join` line joins
record Joins (d after : Declared) (ws : List (List ℕ)) : Type 0 where
  medium : Medium
  from : ℕ
  slot : List ℕ
  to : ℕ
  far_slot : List ℕ
  near : box_named d.names (slice_get ws 1) ≡ Some from
  far : box_named d.names (slice_get ws 3) ≡ Some to
  is : after ≡ with_joined d medium from slot to far_slot

then_of : {A B : Type 0} (o : Option A) (f : A → Option B) (y : B) → (o >>= f) ≡ Some y → (x : A) × (o ≡ Some x) × (f x ≡ Some y)
then_of None f y is = absurd cc
then_of (Some x) f y is = (x, refl, is)

joins : (d after : Declared) (ws : List (List ℕ)) → channel_after d ws ≡ Some after → Joins d after ws
joins d after ws means = by (spelt_value spelt_medium (slice_get ws 0)) refl (box_named d.names (slice_get ws 1)) refl (slice_get ws 2) refl (box_named d.names (slice_get ws 3)) refl (slice_get ws 4) refl
  where
    by : (medium : Option Medium) → spelt_value spelt_medium (slice_get ws 0) ≡ medium → (from : Option ℕ) → box_named d.names (slice_get ws 1) ≡ from → (slot : Option (List ℕ)) → slice_get ws 2 ≡ slot
        → (to : Option ℕ) → box_named d.names (slice_get ws 3) ≡ to → (far_slot : Option (List ℕ)) → slice_get ws 4 ≡ far_slot → Joins d after ws
    by None a from b slot c to e far_slot f = absurd (let none : None ≡ Some after = rw a at means in cc)
    by (Some medium) a None b slot c to e far_slot f = absurd (let none : None ≡ Some after = rw (a, b) at means in cc)
    by (Some medium) a (Some from) b None c to e far_slot f = absurd (let none : None ≡ Some after = rw (a, b, c) at means in cc)
    by (Some medium) a (Some from) b (Some slot) c None e far_slot f = absurd (let none : None ≡ Some after = rw (a, b, c, e) at means in cc)
    by (Some medium) a (Some from) b (Some slot) c (Some to) e None f = absurd (let none : None ≡ Some after = rw (a, b, c, e, f) at means in cc)
    by (Some medium) a (Some from) b (Some slot) c (Some to) e (Some far_slot) f =
        let some : Some (with_joined d medium from slot to far_slot) ≡ Some after = rw (a, b, c, e, f) at means in
        record { medium = medium; from = from; slot = slot; to = to; far_slot = far_slot; near = b; far = e; is = cc }

last_is : (xs : List ChannelState) (x : ChannelState) → last_channel (xs ++ x ∷ []) ≡ x
last_is xs x = let all = length-append xs (x ∷ []) in get_or_at xs x [] no_channel (length (xs ++ x ∷ []) - 1) (omega (arith, all))

-- the item of a channel that joins
item_is : (d : Declared) (medium : Medium) (from : ℕ) (slot : List ℕ) (to : ℕ) (far_slot : List ℕ) → join_of (last_channel (with_joined d medium from slot to far_slot).channels) ≡ Join medium from to
item_is d medium from slot to far_slot = ap join_of (last_is d.channels (channel_between d.channels from to (medium ∷ [])))

-- with its item as this says
abbrev joined_state : TailState → Declared → Item → TailState
joined_state t after item = record (with_channel_joined t after) { items = t.items ++ item ∷ [] }

join_follows : (network : GrownState) (count : ℕ) (t : TailState) (ws : List (List ℕ)) → Follows network count t → least_broken (join_rules t.declared ws) ≡ None → FollowsIf network count (line_join t ws)
join_follows network count t ws follows kept = of_mapped network count (with_channel_joined t) (channel_after t.declared ws) (λ after means. by after (joins t.declared after ws means))
  where
    now : GrownState
    now = after_items network t.items

    off : commanded_by false t.items ≡ false
    off = off_by (commanded_by false t.items) (is_pending t.declared.commands) follows.pending (join_settled t.declared ws kept)

    with_item : (medium : Medium) (from : ℕ) (slot : List ℕ) (to : ℕ) (far_slot : List ℕ) → box_named t.declared.names (slice_get ws 1) ≡ Some from → box_named t.declared.names (slice_get ws 3) ≡ Some to
        → Follows network count (joined_state t (with_joined t.declared medium from slot to far_slot) (Join medium from to))
    with_item medium from slot to far_slot one two =
        let may = may_join t.declared t.out now ws from to follows.like kept one two in
        record {
          like = subst (λ (n : GrownState). IsLike (with_joined t.declared medium from slot to far_slot) t.out n) (sym (after_push network t.items (Join medium from to))) (join_like t.declared t.out now medium from slot to far_slot may follows.like);
          come = come_push t.items (Join medium from to) network false follows.come (may, off);
          pending = λ on. absurd (let still : commanded_by false (t.items ++ Join medium from to ∷ []) ≡ false = commanded_push t.items (Join medium from to) false ∙ off in let clash : true ≡ false = sym on ∙ still in cc);
          parts = omega (arith, follows.parts, parts_more t.items (Join medium from to));
          few = follows.few;
        }

    by : (after : Declared) → Joins t.declared after ws → Follows network count (with_channel_joined t after)
    by after j =
        subst (λ (d : Declared). Follows network count (with_channel_joined t d)) (sym j.is)
        (subst (λ (item : Item). Follows network count (joined_state t (with_joined t.declared j.medium j.from j.slot j.to j.far_slot) item)) (sym (item_is t.declared j.medium j.from j.slot j.to j.far_slot)) (with_item j.medium j.from j.slot j.to j.far_slot j.near j.far))

cut_follows : (network : GrownState) (count : ℕ) (t : TailState) (ws : List (List ℕ)) → Follows network count t → least_broken (cut_rules t ws) ≡ None → FollowsIf network count (line_cut t ws)
cut_follows network count t ws follows kept = of_mapped network count (with_channel_cut t) (channel_named t.declared (slice_get ws 0) (slice_get ws 1)) (λ channel means. by channel means)
  where
    now : GrownState
    now = after_items network t.items

    off : commanded_by false t.items ≡ false
    off = off_by (commanded_by false t.items) (is_pending t.declared.commands) follows.pending (cut_settled t ws kept)

    by : (channel : ℕ) → channel_named t.declared (slice_get ws 0) (slice_get ws 1) ≡ Some channel → Follows network count (with_channel_cut t channel)
    by channel means =
        let may = may_cut t now ws channel follows.like kept means in
        let below = named_below t.declared (slice_get ws 0) (slice_get ws 1) channel means in
        record {
          like = subst (λ (n : GrownState). IsLike t.declared (t.out ++ channel ∷ []) n) (sym (after_push network t.items (Cut channel)))
              (cut_like t.declared.names t.declared.shape t.declared.boxes t.declared.channels t.out now channel below follows.like);
          come = come_push t.items (Cut channel) network false follows.come (may, off);
          pending = λ on. absurd (let still : commanded_by false (t.items ++ Cut channel ∷ []) ≡ false = commanded_push t.items (Cut channel) false ∙ off in let clash : true ≡ false = sym on ∙ still in cc);
          parts = omega (arith, follows.parts, parts_more t.items (Cut channel));
          few = follows.few;
        }

-- ---- each line

kind_follows : (network : GrownState) (count : ℕ) (t : TailState) (kind : Option TailKeyword) (ws : List (List ℕ)) → Follows network count t → least_broken (tail_rules t kind ws) ≡ None → FollowsIf network count (tail_after t kind ws)
kind_follows network count t None ws follows kept = tt
kind_follows network count t (Some tail.Join) ws follows kept = join_follows network count t ws follows kept
kind_follows network count t (Some tail.Cut) ws follows kept = cut_follows network count t ws follows kept
kind_follows network count t (Some (tail.Command kind)) ws follows kept = command_follows network count t kind ws follows kept
kind_follows network count t (Some (tail.Earlier kind)) ws follows kept = tt

by_skipped : (network : GrownState) (count : ℕ) (t : TailState) (ws : List (List ℕ)) (skipped : Bool) → Follows network count t → least_broken (tail_words_rules skipped t ws) ≡ None → FollowsIf network count (tail_words_after skipped t ws)
by_skipped network count t ws true follows kept = follows
by_skipped network count t ws false follows kept = kind_follows network count t (tail_kind_of ws) (drop 1 ws) follows kept

words_kept : (total before : ℕ) (t : TailState) (line : List ℕ) → tail_line_fault total before t line ≡ None → least_broken (tail_words_rules (is_skipped (words line)) t (words line)) ≡ None
words_kept total before t line kept =
    let rest = tail_words_rules (is_skipped (words line)) t (words line) in
    let strange = list_any (λ byte. not (is_plain byte)) line in
    others_kept 3 strange rest (others_kept 2 (nat_lt 256 (length line)) ((3, strange) ∷ rest) (others_kept 1 (passes_limit (text_limit Grow) total before line) (byte_rules line ++ rest) kept))

one_follows : (network : GrownState) (count total before : ℕ) (t : TailState) (line : List ℕ) → Follows network count t → tail_line_fault total before t line ≡ None → Follows network count (unwrap_or (tail_line_after t line) t)
one_follows network count total before t line follows kept = by (tail_line_after t line) (by_skipped network count t (words line) (is_skipped (words line)) follows (words_kept total before t line kept))
  where
    by : (o : Option TailState) → FollowsIf network count o → Follows network count (unwrap_or o t)
    by None are = follows
    by (Some after) are = are

follows_by : (network : GrownState) (count : ℕ) (text : List ℕ) (k : ℕ) → Follows network count (tail_start text) → AreSoundTail text k → Follows network count (tail_by text k)
follows_by network count text zero start sound = start
follows_by network count text (suc k) start sound =
    one_follows network count (length text) (bytes_before_tail text k) (tail_by text k) (slice_index_or (tail_lines text) k []) (follows_by network count text k start (λ j within. sound j (omega arith))) (sound k (omega arith))

-- all lines of a text keep it
pub says_follow : (network : GrownState) (count : ℕ) (text : List ℕ) (t : TailState) → Follows network count (tail_start text) → SaysTail text t → Follows network count t
says_follow network count text t start says = subst (λ (x : TailState). Follows network count x) (sym says.state) (follows_by network count text (length (tail_lines text)) start says.sound)
