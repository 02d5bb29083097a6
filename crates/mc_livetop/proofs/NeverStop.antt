-- The script of a text that can be run live stops nowhere.
use Rattle.std.proofs.Common.{◌≡◌, ◌⊎◌, inl, inr, ℕ, List, Some, ap, map, subst, sym, ◌∙◌}
use Rattle.mc_box.specs.declared.event.Turn.{Turn}
use Rattle.mc_grown_rest.specs.Rests.{RestsByWords}
use Rattle.mc_laws.specs.Chains.{ClosesNoChain}
use Rattle.mc_laws.specs.Versions.{PassesLast}
use Rattle.mc_lines.specs.SoFar.{Declared}
use Rattle.mc_lines.specs.declared.tail.Tail.TheVariants.{Nothing}
use Rattle.mc_livetop.specs.Laws.{LiveNeverStop}
use Rattle.mc_livetop.specs.Shown.{ShowsLive}
use Rattle.mc_livetop.specs.Texts.{AlwaysRestsLive}
use Rattle.mc_model.specs.Settles.{hears_in}
use Rattle.mc_model.specs.Unprogrammed.{HasNoPrograms}
use Rattle.mc_model.specs.Worlds.{WorldState}
use Rattle.mc_net.specs.Nets.{DeclaresNet, IsFirstWorld, batch_turns, batches_of}
use Rattle.mc_net.specs.Texts.{Says}
use Rattle.mc_net.specs.Versions.{MeetsNoLast}
use Rattle.mc_net.specs.declared.net.Net.{Net}
use Rattle.mc_script_end.proofs.Causes.{never_stops}
use Rattle.mc_script_end.proofs.LastVersions.{none_passes, same_says}
use Rattle.mc_script_end.specs.Journals.{ShowsCause}
use Rattle.mc_seq.specs.declared.stopping.SettleStop.{SettleStop}
use Rattle.mc_seq.specs.declared.stopping.SettleStop.TheVariants.{Restless, Ring, VersionEnd}

-- where one operator asks, a stop shows what that of any other run does
shows_cause : (operators : ℕ) (stop : SettleStop) (world : WorldState) (batches : List (List Turn)) → operators ≡ 1 → ShowsLive operators stop world batches → ShowsCause (Some stop) world batches
shows_cause operators (VersionEnd at) world batches one shows = shows
shows_cause operators (Ring at) world batches one shows = (shows.0 one, shows.1)
shows_cause operators (Restless at) world batches one shows = shows

-- what a stop shows doesn't hold of a world that rests in any order
none_shown : (operators : ℕ) (stop : SettleStop) (world : WorldState) (batches : List (List Turn)) → (PassesLast world (λ who local. hears_in who local batches) → ⊥)
    → HasNoPrograms world ⊎ RestsByWords world batches → ClosesNoChain world batches → ShowsLive operators stop world batches → ⊥
none_shown operators (VersionEnd at) world batches below either chain shows = below shows
none_shown operators (Ring at) world batches below either chain shows = shows.1 chain
none_shown operators (Restless at) world batches below (inl unprogrammed) chain shows = shows.0 unprogrammed
none_shown operators (Restless at) world batches below (inr rests) chain shows = shows.1 rests

by_rests : (operators : ℕ) (stop : SettleStop) (text : List ℕ) (d : Declared) (net : Net) → Says Nothing text d → MeetsNoLast d → AlwaysRestsLive operators d → DeclaresNet Nothing text net
    → ShowsLive operators stop net.world (map batch_turns net.batches.items) → ⊥
by_rests operators stop text d net says none (inl any) declares shows =
    let same = same_says text declares.declared d declares.says says in
    let batches = declares.batches ∙ ap (λ (d : Declared). batches_of d.commands) same in
    let rests = any net.world (subst (λ (d : Declared). IsFirstWorld d net.world) same declares.world) in
    let here = subst (λ (list : List (List Turn)). (HasNoPrograms net.world ⊎ RestsByWords net.world list) × ClosesNoChain net.world list) (sym batches) rests in
    none_shown operators stop net.world (map batch_turns net.batches.items) (λ passes. none_passes text d net says none declares passes) here.0 here.1 shows
by_rests operators stop text d net says none (inr (one, rests)) declares shows =
    never_stops stop text d net says none rests declares (shows_cause operators stop net.world (map batch_turns net.batches.items) one shows)

pub never_shown : LiveNeverStop
never_shown operators stop text net (d, says, none, rests) declares shows = by_rests operators stop text d net says none rests declares shows
