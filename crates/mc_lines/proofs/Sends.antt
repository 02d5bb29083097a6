-- A `send` line changes what one box sends, and nothing else.
use Rattle.std.proofs.Common.{◌≡◌, ℕ, zero, suc, List, [], ◌∷◌, map, refl, ap}
use Rattle.std.proofs.lemmas.List.Elements.{All-cons, All-head, All-nil, All-tail}
use Rattle.std.specs.List.{All}
use Rattle.mc_signal.specs.Choice.{codecs_of}
use Rattle.mc_signal.specs.declared.codec_list.CodecList.{CodecList}
use Rattle.mc_plan.specs.Plans.{PlanState}
use Rattle.mc_plan.specs.Plans as plan
use Rattle.mc_plan.specs.declared.plan.BoxPlan.{BoxPlan}
use Rattle.mc_lines.specs.BoxLines.{box_seen}
use Rattle.mc_lines.specs.Meaning.{with_send_list}
use Rattle.mc_lines.specs.SoFar.{DeclaredBox}

-- what is declared of the boxes of a plan in which one sends other codecs
pub sends_seen : (planned : PlanState) (who : ℕ) (sends : CodecList) → map box_seen (plan.with_sends planned who sends).boxes ≡ with_send_list (map box_seen planned.boxes) who (codecs_of sends)
sends_seen planned who sends = go planned.boxes who
  where
    go : (boxes : List BoxPlan) (i : ℕ) → map box_seen (plan.with_sends (record { boxes = boxes; channels = planned.channels }) i sends).boxes ≡ with_send_list (map box_seen boxes) i (codecs_of sends)
    go [] i = refl
    go (first ∷ boxes) zero = refl
    go (first ∷ boxes) (suc i) = ap (λ (others : List DeclaredBox). box_seen first ∷ others) (go boxes i)

-- what holds of each box, whatever it sends, holds still
pub still_all : (P : DeclaredBox → Type 0) → ((declared : DeclaredBox) (sends : List ℕ) → P declared → P (record declared { sends = sends })) → (boxes : List DeclaredBox) (who : ℕ) (sends : List ℕ) → All P boxes → All P (with_send_list boxes who sends)
still_all P stays [] who sends all = All-nil P
still_all P stays (first ∷ boxes) zero sends all = All-cons P (record first { sends = sends }) boxes (stays first sends (All-head P first boxes all)) (All-tail P first boxes all)
still_all P stays (first ∷ boxes) (suc who) sends all = All-cons P first (with_send_list boxes who sends) (All-head P first boxes all) (still_all P stays boxes who sends (All-tail P first boxes all))
