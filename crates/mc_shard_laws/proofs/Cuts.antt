-- What a cut keeps: what was cut has only signals that were taken for good.
use Rattle.std.proofs.Common.{◌≡◌, inl, inr, ℕ, zero, suc, ◌<◌, ◌≤◌, List, [], ◌∷◌, ◌++◌, append_assoc, refl, ap, sym, ◌∙◌, subst, arith, drop, take}
use Rattle.std.specs.List.{AllByRecursion}
use Rattle.std.proofs.lemmas.Bool.{cases_eq}
use Rattle.std.proofs.lemmas.List.Elements.{recursion_from_All}
use Rattle.mc_shard.specs.Cutting.{IsCuttable, IsTakenForGood, MayBeCut, taken_for_good}
use Rattle.mc_shard.specs.Journals.{EntryState, IsAmong, items_at, sent_at}
use Rattle.mc_shard.specs.declared.entry.AtEnd.{AtEnd}
use Rattle.mc_shard.specs.declared.entry.Numbered.{Numbered}
use Rattle.mc_shard_laws.specs.Growth.{CutsKeepTheRest}
use Rattle.mc_shard_laws.proofs.Growth.{among_split, journals_split, sent_append}
use Rattle.mc_shard_laws.proofs.Lanes.{items_away, items_here, number_above}

-- of one entry
low_in : (taken : List ℕ) (end : ℕ) (sent : List AtEnd) (item : Numbered) → AllByRecursion (IsTakenForGood taken) sent → IsAmong (items_at end sent) item
    → item.number ≤ taken_for_good taken end
low_in taken end [] item all is = absurd is
low_in taken end (one ∷ sent) item all is = elim (cases_eq one.end end) [
  | inl same ↦ elim (subst (λ (l : List Numbered). IsAmong l item) (items_here end one sent same) is) [
    | inl it ↦ subst (λ (i : Numbered). i.number ≤ taken_for_good taken end) it (subst (λ (e : ℕ). one.item.number ≤ taken_for_good taken e) same all.0)
    | inr later ↦ low_in taken end sent item all.1 later
  ]
  | inr away ↦ low_in taken end sent item all.1 (subst (λ (l : List Numbered). IsAmong l item) (items_away end one sent away) is)
]

-- and of all
low_in_all : (taken : List ℕ) (end : ℕ) (entries : List EntryState) (item : Numbered) → AllByRecursion (MayBeCut taken) entries → IsAmong (sent_at end entries) item
    → item.number ≤ taken_for_good taken end
low_in_all taken end [] item all is = absurd is
low_in_all taken end (entry ∷ entries) item all is = elim (among_split (items_at end entry.sent) (sent_at end entries) item is) [
  | inl here ↦ low_in taken end entry.sent item (recursion_from_All (IsTakenForGood taken) entry.sent all.0) here
  | inr later ↦ low_in_all taken end entries item all.1 later
]

parts_of : (count : ℕ) (entries : List EntryState) → take count entries ++ drop count entries ≡ entries
parts_of zero entries = refl
parts_of (suc count) [] = refl
parts_of (suc count) (entry ∷ entries) = ap (λ (l : List EntryState). entry ∷ l) (parts_of count entries)

still_sent : (had rest : List EntryState) (taken : List ℕ) (count end : ℕ) (item : Numbered) → IsCuttable taken had count
    → IsAmong (sent_at end (had ++ rest)) item → taken_for_good taken end < item.number → IsAmong (sent_at end (drop count had ++ rest)) item
still_sent had rest taken count end item cuttable is above =
    let whole : had ++ rest ≡ take count had ++ (drop count had ++ rest) =
    ap (λ (l : List EntryState). l ++ rest) (sym (parts_of count had)) ∙ append_assoc (take count had) (drop count had) rest in
    let split : sent_at end (had ++ rest) ≡ sent_at end (take count had) ++ sent_at end (drop count had ++ rest) =
    ap (λ (l : List EntryState). sent_at end l) whole ∙ sent_append end (take count had) (drop count had ++ rest) in
    elim (among_split (sent_at end (take count had)) (sent_at end (drop count had ++ rest)) item (subst (λ (l : List Numbered). IsAmong l item) split is)) [
      | inl cut ↦
          let low : item.number ≤ taken_for_good taken end =
          low_in_all taken end (take count had) item (recursion_from_All (MayBeCut taken) (take count had) cuttable.front) cut in
          absurd (omega (arith, low, above))
      | inr kept ↦ kept
    ]

pub cuts_keep_the_rest : CutsKeepTheRest
cuts_keep_the_rest places first had rest taken count journal cuttable =
    let split = journals_split places first had rest journal in
    record {
      journal = split.1;
      leads = sym split.2;
      sent = λ end item is above. still_sent had rest taken count end item cuttable is above;
      has_sending = λ end items are all item among.
          still_sent had rest taken count end item cuttable (all item among) (number_above (taken_for_good taken end) items item are among);
    }
