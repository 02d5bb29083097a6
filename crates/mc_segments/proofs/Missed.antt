-- Each mark of a journal stands at an end.
use Rattle.std.proofs.Common.{◌≡◌, ◌≢◌, ◌<◌, ◌⊎◌, ◌++◌, inl, inr, ℕ, true, IsTrue, List, [], ◌∷◌, Contains, length, take, slice_get, length-append, refl, ap, sym, ◌∙◌, subst, arith}
use Rattle.std.proofs.Math.Seq.{take-append_seam}
use Rattle.mc_box.specs.declared.event.Turn.{Turn}
use Rattle.mc_model.specs.Settles.{IsSettled}
use Rattle.mc_model.specs.Steps.{after}
use Rattle.mc_model.specs.Worlds.{WorldState}
use Rattle.mc_script.specs.declared.command.JournalLine.{JournalLine}
use Rattle.mc_script.specs.declared.command.JournalLine.TheVariants.{Turn as Made, Settled}
use Rattle.mc_replay.specs.Journals.{IsJournal, lines_for}
use Rattle.mc_replay.specs.Told.{turns_among}
use Rattle.mc_replay.proofs.Commands.{at_seam}
use Rattle.mc_replay.proofs.Prefixes.{after_is}
use Rattle.mc_segments.specs.Ends.{AreEnds, IsEnd, SettlesOwn, may_end}
use Rattle.mc_segments.proofs.AllEnds.{all_from, settles_both}
use Rattle.mc_segments.proofs.Own.{commands_twice}

-- turns that settle any batch settle their own commands
own_of : (begins last : WorldState) (batch turns : List Turn) → IsSettled begins batch turns last → SettlesOwn begins turns last
own_of begins last batch turns settled =
    let rest = settled.last_rest in
    record {
      runs = settled.runs;
      commands = λ who. sym (commands_twice turns who);
      at_rest = settled.at_rest;
      no_ring = settled.no_ring;
      moment = settled.moment;
      last_rest = record {
        within = rest.within;
        at_rest = rest.at_rest;
        used_up = λ who. rest.used_up who ∙ (sym (settled.commands who) ∙ sym (commands_twice turns who));
        retries = rest.retries;
        besides = rest.besides;
      };
    }

-- ---- a mark among lines

among_both : (one two : List JournalLine) → turns_among (one ++ two) ≡ turns_among one ++ turns_among two
among_both [] two = refl
among_both (Made turn ∷ one) two = ap (λ (l : List Turn). turn ∷ l) (among_both one two)
among_both (Settled ∷ one) two = among_both one two

-- a mark is that of the first segment, or stands later
abbrev StandsThere : List Turn → (rest before behind : List JournalLine) → Type 0
StandsThere turns rest before behind =
    (turns_among before ≡ turns) ⊎ ((later : List JournalLine) × (turns_among before ≡ turns ++ turns_among later) × (rest ≡ later ++ Settled ∷ behind))

one_more : (turn : Turn) (turns : List Turn) (line : JournalLine) (rest before behind : List JournalLine) → Made turn ≡ line → StandsThere turns rest before behind → StandsThere (turn ∷ turns) rest (line ∷ before) behind
one_more turn turns line rest before behind is (inl same) = inl (ap (λ (l : JournalLine). turns_among (l ∷ before)) (sym is) ∙ ap (λ (l : List Turn). turn ∷ l) same)
one_more turn turns line rest before behind is (inr (later, same, others)) = inr (later, ap (λ (l : JournalLine). turns_among (l ∷ before)) (sym is) ∙ ap (λ (l : List Turn). turn ∷ l) same, others)

stands_there : (turns : List Turn) (rest before behind : List JournalLine) → lines_for turns ++ rest ≡ before ++ Settled ∷ behind → StandsThere turns rest before behind
stands_there [] rest [] behind is = inl refl
stands_there [] rest (line ∷ before) behind is =
    let first : Settled ≡ line = cc in
    let others : rest ≡ before ++ Settled ∷ behind = cc in
    inr (before, ap (λ (l : JournalLine). turns_among (l ∷ before)) (sym first), others)
stands_there (turn ∷ turns) rest [] behind is = absurd (cc)
stands_there (turn ∷ turns) rest (line ∷ before) behind is =
    let first : Made turn ≡ line = cc in
    let others : lines_for turns ++ rest ≡ before ++ Settled ∷ behind = cc in
    one_more turn turns line rest before behind first (stands_there turns rest before behind others)

none_before : (before behind : List JournalLine) → before ++ Settled ∷ behind ≡ [] → ⊥
none_before [] behind is = cc
none_before (line ∷ before) behind is = cc

-- ---- all turns before a mark

settled_by : (batches : List (List Turn)) (world last : WorldState) (turns : List Turn) (rest before behind : List JournalLine) → SettlesOwn world turns last → StandsThere turns rest before behind
    → ((later : List JournalLine) → rest ≡ later ++ Settled ∷ behind → (end : WorldState) × SettlesOwn last (turns_among later) end) → (end : WorldState) × SettlesOwn world (turns_among before) end
settled_by batches world last turns rest before behind first (inl same) others = (last, subst (λ (l : List Turn). SettlesOwn world l last) (sym same) first)
settled_by batches world last turns rest before behind first (inr (later, same, is)) others =
    let second = others later is in
    (second.0, subst (λ (l : List Turn). SettlesOwn world l second.0) (sym same) (settles_both world last second.0 turns (turns_among later) first.runs second.1))

settled_before : (batches : List (List Turn)) (world : WorldState) (before behind lines : List JournalLine) → lines ≡ before ++ Settled ∷ behind → IsJournal world batches lines → (end : WorldState) × SettlesOwn world (turns_among before) end
settled_before [] world before behind lines is journal = absurd (none_before before behind (sym is ∙ journal))
settled_before (batch ∷ batches) world before behind lines is (turns, last, rest, made, settled, others) =
    settled_by batches world last turns rest before behind (own_of world last batch turns settled) (stands_there turns rest before behind (sym made ∙ is))
    (λ later same. settled_before batches last later behind rest same others)

-- ---- it is an end

some_turns : (turns : List Turn) → turns ≢ [] → 0 < length turns
some_turns [] some = absurd (some refl)
some_turns (turn ∷ turns) some = omega arith

end_by : (world last : WorldState) (one two : List Turn) → SettlesOwn world one last → one ≢ [] → may_end (slice_get two 0) ≡ true → IsEnd world (one ++ two) 0 (length one)
end_by world last one two settles some may =
    let taken : take (length one) (one ++ two) ≡ one = take-append_seam one two in
    let end : after world (take (length one) (one ++ two)) ≡ last = ap (after world) taken ∙ after_is world last one settles.runs in
    record {
      later = some_turns one some;
      within = let long = length-append one two in omega (arith, long);
      may = ap may_end (at_seam one two) ∙ may;
      settles = subst (λ (l : List Turn). SettlesOwn world l (after world (take (length one) (one ++ two)))) (sym taken) (subst (SettlesOwn world one) (sym end) settles);
    }

pub mark_is_end : (world : WorldState) (batches : List (List Turn)) (before behind : List JournalLine) (ends : List ℕ) → IsJournal world batches (before ++ Settled ∷ behind) → AreEnds world (turns_among (before ++ behind)) 0 ends
    → turns_among before ≢ [] → IsTrue (may_end (slice_get (turns_among behind) 0)) → Contains ends (length (turns_among before))
mark_is_end world batches before behind ends journal are some may =
    let settled = settled_before batches world before behind (before ++ Settled ∷ behind) refl journal in
    let is : IsEnd world (turns_among (before ++ behind)) 0 (length (turns_among before)) =
    subst (λ (l : List Turn). IsEnd world l 0 (length (turns_among before))) (sym (among_both before behind)) (end_by world settled.0 (turns_among before) (turns_among behind) settled.1 some may) in
    (all_from ends world (turns_among (before ++ behind)) 0 are (length (turns_among before))).1 is
