-- The programs that a text declares may be laid into the first world of its plan, whose boxes then have the shapes that lines left.
use Rattle.std.proofs.Common.{◌≡◌, ℕ, ◌<◌, ◌||◌, true, List, length, map, slice_index_or, sym, ap, ◌∙◌, subst, arith}
use Rattle.std.proofs.lemmas.List.{get_or-map, length-map}
use Rattle.std.proofs.lemmas.List.Elements.{All-from_get_or}
use Rattle.std.specs.List.{All}
use Rattle.mc_signal.specs.declared.Medium.{Medium}
use Rattle.mc_signal.specs.Choice.{codecs_of}
use Rattle.mc_text.specs.NameLists.{NameLists}
use Rattle.mc_box.specs.BoxShapes.{BoxShapeState, box_shape, is_feature, shape_of}
use Rattle.mc_box.specs.Boxes.{BoxState}
use Rattle.mc_box.specs.declared.event.Kind.{Kind}
use Rattle.mc_model.specs.Unprogrammed.{HasNoPrograms}
use Rattle.mc_model.specs.Worlds.{WorldState, box_at}
use Rattle.mc_plan.specs.Plans.{PlanState, world_of}
use Rattle.mc_plan.proofs.Numbered.{length_boxes, plans_are_unprogrammed}
use Rattle.mc_program_lines.specs.Finished.{IsProgramFor, program_of}
use Rattle.mc_program_lines.specs.Programs.{BlockState}
use Rattle.mc_program_lines.proofs.FinishedBlocks.{finished_blocks_fit}
use Rattle.mc_lines.specs.BoxLines.{box_seen}
use Rattle.mc_lines.specs.declared.section.Section.{Section}
use Rattle.mc_net.specs.Nets.{MayHavePrograms, NamesAll, with_programs}
use Rattle.mc_net.specs.TextLaws.{UnprogrammedTexts}
use Rattle.mc_net.proofs.Laid.{AllFinished, AreLaid, has_owner, no_block, owners}
use Rattle.mc_net.proofs.Programmed.{CanHave, all_may, boxes_are, many_are, shape_by, shapes_are}
use Rattle.mc_net.proofs.Shaped.{AreShapes, plan_shaped}

-- ---- they may be laid out

module _ (shape : List BoxShapeState) (plan : PlanState) (place : Section) (blocks : List BlockState) (shaped : AreShapes shape (map box_seen plan.boxes) plan.channels (owners blocks)) (laid : AreLaid shape place blocks) (finished : AllFinished blocks) where
  -- the box of a program is one of the plan's
  one_can : (k : ℕ) → k < length blocks → CanHave (world_of plan) (slice_index_or blocks k no_block)
  one_can k within =
      let block : BlockState = slice_index_or blocks k no_block in
      let owner : slice_index_or (owners blocks) k 0 ≡ (slice_index_or blocks k no_block).who = get_or-map (λ (b : BlockState). b.who) blocks k no_block 0 within in
      let inside : k < length (owners blocks) = subst (λ (n : ℕ). k < n) (sym (length-map blocks (λ (b : BlockState). b.who))) within in
      let below : (slice_index_or blocks k no_block).who < length shape = subst (λ (n : ℕ). n < length shape) owner (laid.known k 0 inside) in
      let feature : is_feature (shape_of shape (slice_index_or blocks k no_block).who).kind ≡ true = subst (λ (n : ℕ). is_feature (shape_of shape n).kind ≡ true) owner (laid.features k 0 inside) in
      let planned : (slice_index_or blocks k no_block).who < length plan.boxes = omega (arith, shaped.count, length-map plan.boxes box_seen) in
      let there = plan_shaped plan (slice_index_or blocks k no_block).who planned in
      let declared = shaped.each (slice_index_or blocks k no_block).who in
      let kind : (box_at (world_of plan) (slice_index_or blocks k no_block).who).kind ≡ (shape_of shape (slice_index_or blocks k no_block).who).kind = ap (λ (s : BoxShapeState). s.kind) there ∙ sym (ap (λ (s : BoxShapeState). s.kind) declared) in
      let media : (box_shape (box_at (world_of plan) (slice_index_or blocks k no_block).who)).media ≡ (shape_of shape (slice_index_or blocks k no_block).who).media = ap (λ (s : BoxShapeState). s.media) there ∙ sym (ap (λ (s : BoxShapeState). s.media) declared) in
      record {
        there = subst (λ (n : ℕ). (slice_index_or blocks k no_block).who < n) (sym (length_boxes plan.channels plan.boxes 0)) planned;
        feature = subst (λ (it : Kind). is_feature it ≡ true) (sym kind) feature;
        bare = plans_are_unprogrammed plan (slice_index_or blocks k no_block).who;
        fits = subst (λ (l : List Medium). IsProgramFor l (program_of (slice_index_or blocks k no_block))) (sym media)
            (finished_blocks_fit (shape_of shape (slice_index_or blocks k no_block).who).media block (laid.fitting k no_block within) (finished k within));
      }

  pub programs_may : MayHavePrograms (world_of plan) blocks
  programs_may = all_may (world_of plan) blocks laid.apart (All-from_get_or (CanHave (world_of plan)) blocks no_block one_can)

  -- and the boxes then have the shapes
  pub programs_shaped : (who : ℕ) → who < length (with_programs (world_of plan) blocks).boxes → box_shape (box_at (with_programs (world_of plan) blocks) who) ≡ shape_of shape who
  programs_shaped who below =
      let there : who < length (world_of plan).boxes = subst (λ (n : ℕ). who < n) (many_are (world_of plan) blocks) below in
      let planned : who < length plan.boxes = subst (λ (n : ℕ). who < n) (length_boxes plan.channels plan.boxes 0) there in
      shapes_are (world_of plan) blocks who there
      ∙ ap (λ (s : BoxShapeState). shape_by s (s.programmed || has_owner (owners blocks) who)) (plan_shaped plan who planned)
      ∙ sym (shaped.each who)

-- ---- names

-- all of a world has names, whatever programs are laid into it
pub programs_named : (names : NameLists) (first : WorldState) (blocks : List BlockState) → NamesAll names first → NamesAll names (with_programs first blocks)
programs_named names first blocks named = record {
  boxes = named.boxes ∙ sym (many_are first blocks);
  slots = λ who below. named.slots who (subst (λ (n : ℕ). who < n) (many_are first blocks) below) ∙ ap (λ (box : BoxState). length box.slots) (sym (boxes_are first blocks who).is);
  codecs = λ who. subst (λ (box : BoxState). All (λ codec. codec < length names.codecs) (codecs_of box.receives)) (sym (boxes_are first blocks who).is) (named.codecs who);
}

-- ---- no programs

pub unprogrammed_texts : UnprogrammedTexts
unprogrammed_texts d world first none =
    let is : world ≡ world_of first.plan = first.world ∙ ap (λ (blocks : List BlockState). with_programs (world_of first.plan) blocks) none in
    subst (λ (w : WorldState). HasNoPrograms w) (sym is) (plans_are_unprogrammed first.plan)
