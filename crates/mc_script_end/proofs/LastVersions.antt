-- A script that stopped at the last version: the version of some slot and its Hears pass it. So no text whose versions and Hears stay below stops so.
use Rattle.std.proofs.Common.{◌≡◌, ◌+◌, ◌<◌, ◌≤◌, inl, inr, ℕ, List, [], ◌∷◌, map, ap, sym, ◌∙◌, subst, arith}
use Rattle.std.proofs.lemmas.List.Sums.{sum_by-cons}
use Rattle.mc_box.specs.declared.event.Turn.{Turn}
use Rattle.mc_box.specs.declared.limit.TheConstants.{LAST_VERSION}
use Rattle.mc_laws.proofs.HearCounts.{settles_count_hears}
use Rattle.mc_laws.proofs.LastMet.{last_is_passed}
use Rattle.mc_laws.proofs.RunVersions.{versions_count_hears}
use Rattle.mc_laws.proofs.ShapesKept.{run_keeps_shape}
use Rattle.mc_laws.proofs.StepKeeps.{run_keeps_sound}
use Rattle.mc_laws.specs.Versions.{PassesLast}
use Rattle.mc_model.specs.Settles.{hears_in, hears_of}
use Rattle.mc_model.specs.Sound.{IsSound}
use Rattle.mc_model.specs.Worlds.{WorldState, version_at}
use Rattle.mc_lines.specs.Meaning.{declared_at}
use Rattle.mc_net.specs.Nets.{DeclaresNet, batch_turns, batches_of}
use Rattle.mc_lines.specs.SoFar.{Declared}
use Rattle.mc_net.specs.Texts.{Says}
use Rattle.mc_lines.specs.declared.tail.Tail.TheVariants.{Nothing}
use Rattle.mc_net.specs.Versions.{MeetsNoLast}
use Rattle.mc_net.specs.declared.net.Net.{Net}
use Rattle.mc_net.proofs.Versions.{first_versions}
use Rattle.mc_script.specs.declared.command.JournalLine.{JournalLine}
use Rattle.mc_script_end.specs.Journals.{IsStoppedJournal}
use Rattle.mc_seq.specs.declared.stopping.SettleStop.TheVariants.{VersionEnd}

-- one batch before the others
pub hears_more : (who local : ℕ) (batch : List Turn) (batches : List (List Turn)) → hears_in who local (batch ∷ batches) ≡ hears_of who local batch + hears_in who local batches
hears_more who local batch batches = sum_by-cons (hears_of who local) batch batches

-- in the first of the batches, or in a later one
pub stopped_passes : (batches : List (List Turn)) (world : WorldState) (at : ℕ) (journal : List JournalLine) → IsSound world → IsStoppedJournal (VersionEnd at) world batches journal → PassesLast world (λ who local. hears_in who local batches)
stopped_passes [] world at journal sound stopped = absurd stopped
stopped_passes (batch ∷ batches) world at journal sound (inl here) =
    let one = last_is_passed world here.last batch here.turns at sound here.stopped here.cause in
    record {
      who = one.who;
      local = one.local;
      here = one.here;
      inside = one.inside;
      passes = let passes = one.passes in let all = hears_more one.who one.local batch batches in omega arith;
    }
stopped_passes (batch ∷ batches) world at journal sound (inr (turns, last, rest, is, settled, later)) =
    let one = stopped_passes batches last at rest (run_keeps_sound world last turns sound settled.runs) later in
    let shape = run_keeps_shape world last turns sound settled.runs in
    record {
      who = one.who;
      local = one.local;
      here = subst (λ (n : ℕ). one.who < n) shape.boxes one.here;
      inside = subst (λ (n : ℕ). one.local < n) (shape.alike one.who).slots one.inside;
      passes =
          let passes = one.passes in
          let all = hears_more one.who one.local batch batches in
          let grown = versions_count_hears world last turns sound settled.runs one.who one.local in
          let made = settles_count_hears world last batch turns settled one.who one.local in
          omega arith;
    }

-- a text says one thing
pub same_says : (text : List ℕ) (d other : Declared) → Says Nothing text d → Says Nothing text other → d ≡ other
same_says text d other one two = one.declared ∙ sym two.declared

-- the network of such a text doesn't stop so
pub none_passes : (text : List ℕ) (d : Declared) (net : Net) → Says Nothing text d → MeetsNoLast d → DeclaresNet Nothing text net → PassesLast net.world (λ who local. hears_in who local (map batch_turns net.batches.items)) → ⊥
none_passes text d net says none declares one =
    let same : declares.declared ≡ d = same_says text declares.declared d declares.says says in
    let first : version_at net.world one.who one.local ≡ (declared_at declares.declared.boxes one.who).version = first_versions declares.declared net.world one.who one.local declares.world one.here one.inside in
    let hears : hears_in one.who one.local (map batch_turns net.batches.items) ≡ hears_in one.who one.local (batches_of declares.declared.commands) = ap (hears_in one.who one.local) declares.batches in
    let within : (declared_at declares.declared.boxes one.who).version + hears_in one.who one.local (batches_of declares.declared.commands) ≤ LAST_VERSION = subst MeetsNoLast (sym same) none one.who one.local in
    let passes = one.passes in
    omega arith
