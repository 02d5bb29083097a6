-- What is told at the marks of a journal, line by line.
use Rattle.std.proofs.Common.{◌≡◌, ◌<◌, ◌+◌, ◌++◌, ◌∙◌, ℕ, length, Option, Some, None, IfSome, List, [], ◌∷◌, slice_index_or, take, refl, ap, sym, subst, append-nil, append_assoc}
use Rattle.std.proofs.lemmas.List.{take_more}
use Rattle.mc_box.specs.declared.event.Turn.{Turn}
use Rattle.mc_cause.specs.Carried.{AreOfSlots, TellsCauses, WhysState}
use Rattle.mc_cause.proofs.Known.{run_count}
use Rattle.mc_model.specs.Worlds.{WorldState}
use Rattle.mc_script.specs.declared.command.JournalLine.{JournalLine}
use Rattle.mc_script.specs.declared.command.JournalLine.TheVariants.{Turn as Made, Settled}
use Rattle.mc_replay.specs.Told.{AddsWhys, AreTold, HasNoted, HasTold, KeepsPace, NotesMade, TellsLine, TellsWhys, told_of, turns_among}
use Rattle.mc_replay.specs.declared.replay.Replay.{Replay}
use Rattle.mc_replay.specs.declared.telling.Telling.{Telling}

-- ---- one line more

pub noted_pace : (before after : Option WhysState) (world : WorldState) (turn : Turn) (replay : Replay) → HasNoted world turn replay before after → IfSome after (KeepsPace replay)
noted_pace None after world turn replay none = subst (λ (o : Option WhysState). IfSome o (KeepsPace replay)) (sym none) tt
noted_pace (Some before) None world turn replay noted = absurd noted
noted_pace (Some before) (Some after) world turn replay noted = noted.pace

pub line_pace : (line : JournalLine) (world : WorldState) (replay : Replay) (old new : Telling) → TellsLine world line replay old new → IfSome new.whys (KeepsPace replay)
line_pace (Made turn) world replay old new tells = noted_pace old.whys new.whys world turn replay tells.0
line_pace Settled world replay old new (same, adds, stays, pace) = pace

noted_some : (before after : Option WhysState) (kept : WhysState) (world : WorldState) (turn : Turn) (replay : Replay) → before ≡ Some kept → HasNoted world turn replay before after
    → (next : WhysState) × (after ≡ Some next) × NotesMade world turn replay kept next
noted_some None after kept world turn replay is noted = absurd (cc)
noted_some (Some before) None kept world turn replay is noted = absurd noted
noted_some (Some before) (Some after) kept world turn replay is noted =
    let same : before ≡ kept = cc in (after, refl, subst (λ (w : WhysState). NotesMade world turn replay w after) same noted)

turns_both : (read : List JournalLine) (line : JournalLine) → turns_among (read ++ line ∷ []) ≡ turns_among read ++ turns_among (line ∷ [])
turns_both [] line = refl
turns_both (Made turn ∷ read) line = ap (λ (l : List Turn). turn ∷ l) (turns_both read line)
turns_both (Settled ∷ read) line = turns_both read line

-- what is kept tells of all slots of the first world
tells_whys : (first last : WorldState) (turns : List Turn) (kept : WhysState) → TellsCauses first turns last kept → TellsWhys first turns kept.whys
tells_whys first last turns kept tells s inside = tells.whys s (subst (λ (n : ℕ). s < n) (sym (run_count turns first last tells.sound tells.runs)) inside)

pub told_more : (line : JournalLine) (first : WorldState) (read : List JournalLine) (world : WorldState) (replay : Replay) (old new : Telling) → HasTold first read world old → TellsLine world line replay old new
    → HasTold first (read ++ line ∷ []) replay.segment.world new
told_more (Made turn) first read world replay old new told (noted, same) =
    let next = noted_some old.whys new.whys told.kept world turn replay told.asked noted in
    record {
      kept = next.0;
      asked = next.1;
      slots = next.2.pace.slots;
      causes = subst (λ (l : List Turn). TellsCauses first l replay.segment.world next.0) (sym (turns_both read (Made turn))) (next.2.tells first (turns_among read) told.causes);
      told = λ more others are.
          subst (λ (l : List JournalLine). AreTold first [] l (told_of new ++ others)) (sym (append_assoc read (Made turn ∷ []) more))
          (subst (λ (l : List (List (Option ℕ))). AreTold first [] (read ++ (Made turn ∷ more)) (l ++ others)) (sym same)
          (told.told (Made turn ∷ more) others (subst (λ (l : List Turn). AreTold first l more others) (turns_both read (Made turn)) are)));
    }
told_more Settled first read world replay old new told (same, adds, stays, pace) =
    let turns_same : turns_among (read ++ Settled ∷ []) ≡ turns_among read = turns_both read Settled ∙ append-nil (turns_among read) in
    let whys_is : told_of new ≡ told_of old ++ told.kept.whys ∷ [] = subst (λ (o : Option WhysState). AddsWhys o (told_of old) (told_of new)) told.asked adds in
    record {
      kept = told.kept;
      asked = same ∙ told.asked;
      slots = subst (λ (w : WorldState). AreOfSlots w told.kept) (sym stays) told.slots;
      causes = subst (λ (w : WorldState). TellsCauses first (turns_among (read ++ Settled ∷ [])) w told.kept) (sym stays)
          (subst (λ (l : List Turn). TellsCauses first l world told.kept) (sym turns_same) told.causes);
      told = λ more others are.
          subst (λ (l : List JournalLine). AreTold first [] l (told_of new ++ others)) (sym (append_assoc read (Settled ∷ []) more))
          (subst (λ (l : List (List (Option ℕ))). AreTold first [] (read ++ (Settled ∷ more)) l)
          (sym (ap (λ (l : List (List (Option ℕ))). l ++ others) whys_is ∙ append_assoc (told_of old) (told.kept.whys ∷ []) others))
          (told.told (Settled ∷ more) (told.kept.whys ∷ others)
          (tells_whys first world (turns_among read) told.kept told.causes, subst (λ (l : List Turn). AreTold first l more others) turns_same are)));
    }

-- a line by its place
pub told_next : (first : WorldState) (lines : List JournalLine) (k : ℕ) (none : JournalLine) (world : WorldState) (replay : Replay) (old new : Telling) → k < length lines
    → TellsLine world (slice_index_or lines k none) replay old new → HasTold first (take k lines) world old → HasTold first (take (k + 1) lines) replay.segment.world new
told_next first lines k none world replay old new within tells told =
    subst (λ (l : List JournalLine). HasTold first l replay.segment.world new) (sym (take_more lines k none within))
    (told_more (slice_index_or lines k none) first (take k lines) world replay old new told tells)

-- all lines are read
pub all_told : (first last : WorldState) (lines : List JournalLine) (telling : Telling) → HasTold first lines last telling → AreTold first [] lines (told_of telling)
all_told first last lines telling told =
    subst (AreTold first [] lines) (append-nil (told_of telling))
    (subst (λ (l : List JournalLine). AreTold first [] l (told_of telling ++ [])) (append-nil lines) (told.told [] [] refl))
