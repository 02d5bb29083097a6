-- No part's run stops at what can't come in a sound network.
use Rattle.std.proofs.Common.{◌≡◌, ◌&&◌, ◌<◌, Bool, true, false, ℕ, zero, suc, nat_lt, IsTrue, Some, None, Option, List, [], ◌∷◌, drop, get_or, length, slice_get, Result, Ok, Err, refl, ap, sym, ◌∙◌, subst, true≢false, Vec, Global}
use Rattle.std.specs.List.{AllByRecursion}
use Rattle.std.proofs.lemmas.Bool.{ltb-true}
use Rattle.std.proofs.lemmas.Option.{slice_get_within}
use Rattle.mc_box.specs.BoxEvents.{is_command, is_enabled, is_take, is_version_end, turn_of}
use Rattle.mc_box.specs.BoxShapes.{box_shape, is_enabled_by}
use Rattle.mc_box.specs.BoxSound.{IsSoundBox}
use Rattle.mc_box.specs.Boxes.{BoxState, no_box}
use Rattle.mc_box.specs.declared.event.Event.{Event}
use Rattle.mc_box.specs.declared.event.Event.TheVariants.{Take, Set, Media, Tell, Retry, Shift}
use Rattle.mc_box.specs.declared.event.Turn.{Turn}
use Rattle.mc_model.specs.Shapes.{is_allowed}
use Rattle.mc_model.specs.Worlds.{WorldState, box_at}
use Rattle.mc_laws.proofs.CommandsGo.{Allowed, allowed_parts, both_is}
use Rattle.mc_merge.specs.declared.log.PartLog.{PartLog}
use Rattle.mc_world.specs.StepAnswers.{CannotHappen}
use Rattle.mc_part.specs.Phases.{EachOf, HasEnded, HasGone}
use Rattle.mc_part.specs.Running.{EndsAs, MeetsUnable, StopsAs}
use Rattle.mc_part.specs.declared.part.Part.{Part}
use Rattle.mc_part.specs.declared.part_run.PartRun.{PartRun}
use Rattle.mc_part.specs.declared.stop.Ended.{Ended}
use Rattle.mc_part.specs.declared.stop.PartStop.{PartStop}
use Rattle.mc_part.specs.declared.stop.PartStop.TheVariants.{NoMemory, Spent, VersionEnd, Unable, Strange, Stray}
use Rattle.mc_part.proofs.Turned.{can_act}
use Rattle.mc_divided.specs.Networks.{IsDividedNetwork}
use Rattle.mc_divided.specs.Phasing.{EndsLawfully, HasPlayed, IsChosen}
use Rattle.mc_divided.specs.declared.network.DividedNetwork.{DividedNetwork}
use Rattle.mc_divided.proofs.Closed.{ClosedAt, Phased, closed_at, opened_at}
use Rattle.mc_divided.proofs.Drained.{IsLike}
use Rattle.mc_divided.proofs.Lists.{one_of}
use Rattle.mc_divided.proofs.PartsBy.{run_there}
use Rattle.mc_divided.proofs.PhaseEnd.{divided_by, phased}
use Rattle.mc_divided.proofs.Phased.{none_of}
use Rattle.mc_divided.proofs.Played.{KeepsCounts, allowed_after, keeps_counts, sound_at}
use Rattle.mc_divided.proofs.Strange.{none_meets_strange}
use Rattle.mc_divided.proofs.Strays.{none_meets_stray}

-- ---- a command that can't happen

takes_none : (event : Event) → is_command event ≡ true → is_take event ≡ false
takes_none (Take local) is = absurd (true≢false (sym is))
takes_none (Set change) is = refl
takes_none (Media change) is = refl
takes_none (Tell word) is = refl
takes_none (Retry local) is = absurd (true≢false (sym is))
takes_none Shift is = absurd (true≢false (sym is))

-- an allowed command of a sound box happens, or ends a version
can_happen : (world : WorldState) (who : ℕ) (event : Event) → IsSoundBox (box_at world who) → IsTrue (is_allowed world (turn_of who event)) → CannotHappen world (turn_of who event) → ⊥
can_happen world who event sound allowed cannot = by_end (is_version_end (box_at world who) event) refl
  where
    parts : Allowed world (turn_of who event)
    parts = allowed_parts world (turn_of who event) allowed

    by_end : (ends : Bool) → is_version_end (box_at world who) event ≡ ends → ⊥
    by_end true is =
        let both : (nat_lt who (length world.boxes) && (is_version_end (box_at world who) event && is_enabled (box_at world who) event)) ≡ true =
        both_is (nat_lt who (length world.boxes)) (is_version_end (box_at world who) event && is_enabled (box_at world who) event) parts.below (both_is (is_version_end (box_at world who) event) (is_enabled (box_at world who) event) is parts.enabled) in
        true≢false (sym both ∙ cannot.1)
    by_end false is = can_act world who event (ltb-true who (length world.boxes) parts.below) sound (takes_none event parts.command) parts.enabled is cannot

next_of : (P : Turn → Type 0) (turns : List Turn) (k : ℕ) (turn : Turn) → slice_get turns k ≡ Some turn → AllByRecursion P (drop k turns) → P turn
next_of P [] k turn is all = absurd (cc)
next_of P (x ∷ xs) zero turn is all = subst P (let same : x ≡ turn = cc in same) all.0
next_of P (x ∷ xs) (suc k) turn is all = next_of P xs k turn is all

-- of a part that ran, and the one after the phase
none_unable : (c d : Part) (who : ℕ) → IsLike c d → KeepsCounts c d → AllByRecursion (λ (turn : Turn). IsTrue (is_allowed d.engine turn)) (drop d.used d.commands.items) → ((at : ℕ) → at < length d.engine.boxes → IsSoundBox (box_at d.engine at)) → MeetsUnable c who → ⊥
none_unable c d who like keeps all sound meets =
    let next : slice_get d.commands.items d.used ≡ Some (turn_of who meets.event) = ap (λ (v : Vec Turn Global). slice_get v.items d.used) keeps.commands ∙ (ap (λ (k : ℕ). slice_get c.commands.items k) keeps.used ∙ meets.next) in
    let allowed : IsTrue (is_allowed d.engine (turn_of who meets.event)) = next_of (λ (turn : Turn). IsTrue (is_allowed d.engine turn)) d.commands.items d.used (turn_of who meets.event) next all in
    let parts : Allowed d.engine (turn_of who meets.event) = allowed_parts d.engine (turn_of who meets.event) allowed in
    can_happen c.engine who meets.event
    (subst (λ (l : List BoxState). IsSoundBox (get_or l who no_box)) like.boxes (sound who (ltb-true who (length d.engine.boxes) parts.below)))
    (subst (λ (l : List BoxState). (nat_lt who (length l) && is_enabled_by (box_shape (get_or l who no_box)) meets.event) ≡ true) like.boxes allowed)
    meets.cannot

-- ---- all stops

stops_as : (o : Option (Result Ended PartStop)) (r : Result Ended PartStop) (part : Part) (budget : ℕ) (stop : PartStop) → o ≡ Some r → o ≡ Some (Err stop) → EndsAs r part budget → StopsAs stop part budget
stops_as o r part budget stop is is_2 ends = subst (λ (y : Result Ended PartStop). EndsAs y part budget) (let same : r ≡ Err stop = cc in same) ends

-- what a part met where it stopped
stop_met : (retries every : Bool) (budget : ℕ) (x b c : PartRun) (stop : PartStop) → IsChosen every x b → HasGone retries budget b c → c.ended ≡ Some (Err stop) → (active : Bool) → b.active ≡ active → StopsAs stop c.part budget
stop_met retries every budget x b c stop chose went ended true is =
    let at : HasEnded retries budget b c = went.ended is in
    stops_as c.ended at.result c.part budget stop at.is ended at.ends
stop_met retries every budget x b c stop chose went ended false is = absurd (let none : c.ended ≡ None = ap (λ (r : PartRun). r.ended) (went.idle is) ∙ chose.ended in cc)

lawful_by : (o : Option (Result Ended PartStop)) → ((who : ℕ) → o ≡ Some (Err (Unable who)) → ⊥) → ((who local : ℕ) → o ≡ Some (Err (Strange who local)) → ⊥) → ((port : ℕ) → o ≡ Some (Err (Stray port)) → ⊥) → EndsLawfully o
lawful_by None unable strange stray = tt
lawful_by (Some (Ok ended)) unable strange stray = tt
lawful_by (Some (Err Spent)) unable strange stray = tt
lawful_by (Some (Err (NoMemory e))) unable strange stray = tt
lawful_by (Some (Err (VersionEnd who local))) unable strange stray = tt
lawful_by (Some (Err (Unable who))) unable strange stray = unable who refl
lawful_by (Some (Err (Strange who local))) unable strange stray = strange who local refl
lawful_by (Some (Err (Stray port))) unable strange stray = stray port refl

pub lawful_after : (n : DividedNetwork) (retries : Bool) (runs : Vec PartRun Global) (logs : Vec PartLog Global) (before after : List Turn) → IsDividedNetwork n → HasPlayed retries n.calm n.crossings.items n.runs.items runs.items n.logs.items logs.items before after
    → EachOf (λ (run : PartRun). EndsLawfully run.ended) runs.items
lawful_after n retries runs logs before after divided played i d there =
    let gone : List PartRun = played.gone in
    let p : Phased n retries played.every played.budget played.chosen gone played.carried runs.items logs.items before after = phased n retries runs.items logs.items before after divided played in
    let m : DividedNetwork = record n { runs = runs; logs = logs; calm = false; free = false } in
    let divided_2 : IsDividedNetwork m = divided_by n retries runs logs false before after divided played (λ on. absurd (true≢false (sym on))) in
    let opened = opened_at n retries played.every played.budget played.chosen gone played.carried runs.items logs.items before after p i d there in
    let x : PartRun = opened.0 in
    let at : ClosedAt gone runs.items n retries played.every played.budget played.chosen i x = closed_at n retries played.every played.budget played.chosen gone played.carried runs.items logs.items before after p i x opened.1 in
    let c : PartRun = at.ran.c in
    let same : at.d ≡ d = one_of (slice_get runs.items i) at.d d at.d_there there in
    let like : IsLike c.part d.part = subst (λ (r : PartRun). IsLike c.part r.part) same at.like in
    let mid = run_there played.carried i (subst (λ (k : ℕ). i < k) (sym p.over.same.count) (slice_get_within gone i c at.ran.c_there)) in
    let ended : d.ended ≡ c.ended = ap (λ (r : PartRun). r.ended) (p.merged.closed.each i mid.0 d mid.1 there).kept ∙ (p.over.same.each i c mid.0 at.ran.c_there mid.1).ended in
    let keeps : KeepsCounts c.part d.part = keeps_counts n retries played.every played.budget played.chosen gone played.carried runs.items logs.items before after p i c d at.ran.c_there there in
    lawful_by d.ended
    (λ who stop.
    none_unable c.part d.part who like keeps (allowed_after n retries played.every played.budget played.chosen gone played.carried runs.items logs.items before after p i d there) (sound_at m (none_of m divided_2) divided_2 i d there)
    (stop_met retries played.every played.budget x at.ran.b c (Unable who) at.ran.chose at.ran.went (sym ended ∙ stop) at.ran.b.active refl))
    (λ who local stop.
    none_meets_strange n retries played.every played.budget played.chosen gone played.carried runs logs before after p divided_2 i who local x c d opened.1 at.ran.c_there there at.ran.runs.run.channels at.ran.runs.run.spanned.work.box_count like
    (stop_met retries played.every played.budget x at.ran.b c (Strange who local) at.ran.chose at.ran.went (sym ended ∙ stop) at.ran.b.active refl))
    (λ port stop.
    none_meets_stray n retries played.every played.budget played.chosen gone played.carried runs.items logs.items before after (none_of n divided) p i port c at.ran.c_there
    (stop_met retries played.every played.budget x at.ran.b c (Stray port) at.ran.chose at.ran.went (sym ended ∙ stop) at.ran.b.active refl))

pub lawful_as_read : (runs runs_2 : List PartRun) → runs ≡ runs_2 → EachOf (λ (run : PartRun). EndsLawfully run.ended) runs_2 → EachOf (λ (run : PartRun). EndsLawfully run.ended) runs
lawful_as_read runs runs_2 is each = subst (λ (l : List PartRun). EachOf (λ (run : PartRun). EndsLawfully run.ended) l) (sym is) each
