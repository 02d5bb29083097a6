-- What a stop shows of a script; and that the script of a text on which work can be done has none.
use Rattle.std.proofs.Common.{◌⊎◌, inl, inr, List, Option, None, Some, ℕ, map, ap, sym, ◌∙◌, subst}
use Rattle.mc_box.specs.declared.event.Turn.{Turn}
use Rattle.mc_model.specs.Sound.{IsSound}
use Rattle.mc_model.specs.Unprogrammed.{HasNoPrograms}
use Rattle.mc_model.specs.Worlds.{WorldState}
use Rattle.mc_net.proofs.FirstPrograms.{unprogrammed_texts}
use Rattle.mc_net.specs.Nets.{DeclaresNet, IsFirstWorld, batch_turns, batches_of}
use Rattle.mc_lines.specs.SoFar.{Declared}
use Rattle.mc_net.specs.Texts.{Says}
use Rattle.mc_lines.specs.declared.tail.Tail.TheVariants.{Nothing}
use Rattle.mc_net.specs.Versions.{MeetsNoLast}
use Rattle.mc_net.specs.declared.net.Net.{Net}
use Rattle.mc_script.specs.declared.command.JournalLine.{JournalLine}
use Rattle.mc_script_end.specs.Journals.{IsJournalTo, ShowsCause}
use Rattle.mc_settings.specs.Batches.{LeavesNoRing}
use Rattle.mc_script_end.specs.Rings.{AlwaysRests}
use Rattle.mc_laws.specs.Chains.{ClosesNoChain}
use Rattle.mc_grown_rest.specs.Rests.{RestsByWords}
use Rattle.mc_laws.specs.Versions.{PassesLast}
use Rattle.mc_model.specs.Settles.{hears_in}
use Rattle.mc_seq.specs.declared.stopping.SettleStop.{SettleStop}
use Rattle.mc_seq.specs.declared.stopping.SettleStop.TheVariants.{Restless, Ring, VersionEnd}
use Rattle.mc_script_end.proofs.LastVersions.{none_passes, same_says, stopped_passes}
use Rattle.mc_script_end.proofs.LeftRings.{stopped_leaves}
use Rattle.mc_script_end.proofs.NamedRings.{closes_none}
use Rattle.mc_script_end.proofs.ToldWords.{none_restless, words_rest}

-- whatever the stop is
pub ran_shows : (stop : Option SettleStop) (batches : List (List Turn)) (world : WorldState) (journal : List JournalLine) → IsSound world → IsJournalTo stop world batches journal → ShowsCause stop world batches
ran_shows None batches world journal sound ran = tt
ran_shows (Some (VersionEnd at)) batches world journal sound ran = stopped_passes batches world at journal sound ran
ran_shows (Some (Ring at)) batches world journal sound ran =
    (λ unprogrammed none. stopped_leaves batches world at journal sound unprogrammed ran none, λ chain. closes_none batches world at journal sound ran chain)
ran_shows (Some (Restless at)) batches world journal sound ran =
    (λ unprogrammed. none_restless batches world at journal sound ran unprogrammed, λ rests. words_rest batches world at journal sound ran rests)

-- what a stop shows doesn't hold of such a world
none_shown : (stop : SettleStop) (world : WorldState) (batches : List (List Turn)) → (PassesLast world (λ who local. hears_in who local batches) → ⊥)
    → (HasNoPrograms world × LeavesNoRing world batches) ⊎ (RestsByWords world batches × ClosesNoChain world batches) → ShowsCause (Some stop) world batches → ⊥
none_shown (VersionEnd at) world batches below either shows = below shows
none_shown (Ring at) world batches below (inl (unprogrammed, none)) shows = shows.0 unprogrammed none
none_shown (Ring at) world batches below (inr (rests, chain)) shows = shows.1 chain
none_shown (Restless at) world batches below (inl (unprogrammed, none)) shows = shows.0 unprogrammed
none_shown (Restless at) world batches below (inr (rests, chain)) shows = shows.1 rests

-- the first world of a text whose batches come to rest is such a one
first_rests : (d : Declared) (world : WorldState) → AlwaysRests d → IsFirstWorld d world
    → (HasNoPrograms world × LeavesNoRing world (batches_of d.commands)) ⊎ (RestsByWords world (batches_of d.commands) × ClosesNoChain world (batches_of d.commands))
first_rests d world (inl (unprogrammed, none)) first = inl (unprogrammed_texts d world first unprogrammed, none world first)
first_rests d world (inr by_names) first = inr (by_names world first)

-- no stop shows its cause in the network of such a text
pub never_stops : (stop : SettleStop) (text : List ℕ) (d : Declared) (net : Net) → Says Nothing text d → MeetsNoLast d → AlwaysRests d → DeclaresNet Nothing text net
    → ShowsCause (Some stop) net.world (map batch_turns net.batches.items) → ⊥
never_stops stop text d net says none rests declares shows =
    let same = same_says text declares.declared d declares.says says in
    let batches = declares.batches ∙ ap (λ (d : Declared). batches_of d.commands) same in
    none_shown stop net.world (map batch_turns net.batches.items) (λ passes. none_passes text d net says none declares passes)
    (subst (λ (list : List (List Turn)). (HasNoPrograms net.world × LeavesNoRing net.world list) ⊎ (RestsByWords net.world list × ClosesNoChain net.world list)) (sym batches)
    (first_rests d net.world rests (subst (λ (d : Declared). IsFirstWorld d net.world) same declares.world))) shows
