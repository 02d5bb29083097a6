-- What a journal says of one of its boxes.
use Rattle.std.proofs.Common.{◌≡◌, ◌≢◌, inl, inr, ◌==◌, if◌then◌else◌, Bool, true, false, ℕ, ◌+◌, ◌<◌, ◌≤◌, List, [], ◌∷◌, ◌++◌, length, map, Option, Some, None, refl, ap, sym, ◌∙◌, subst, arith}
use Rattle.std.specs.List.{AllByRecursion, slice_get}
use Rattle.std.specs.Option.{option_map}
use Rattle.std.proofs.Math.ListN.{get_or}
use Rattle.std.proofs.lemmas.Bool.{cases_eq}
use Rattle.std.proofs.lemmas.List.{get_or-set_same, get_or-set_other, map-append}
use Rattle.mc_signal.specs.declared.Signal.{Signal}
use Rattle.mc_box.specs.BoxEvents.{box_event}
use Rattle.mc_box.specs.Boxes.{BoxState, no_box}
use Rattle.mc_box.specs.declared.event.Event.{Event}
use Rattle.mc_box.specs.declared.event.Event.TheVariants.{Take, Set, Media, Tell, Retry, Shift}
use Rattle.mc_port.specs.Entries.{AreMade, Entry, signal_in}
use Rattle.mc_port.specs.Tunnels.{event_sends, event_takes, log_sends, sent_if, taken_if, tunnel_if_at, tunnels_at}
use Rattle.mc_merge.specs.Claims.{AreClaims}
use Rattle.mc_merge.specs.LaneLogs.{takings}
use Rattle.mc_merge.specs.Lanes.{FitsTunnel, tunnel_at}
use Rattle.mc_model.specs.Worlds.{WorldState}
use Rattle.mc_merge.specs.Logs.{AreRising, Own, own_log}
use Rattle.mc_port.specs.Ends.{with_stamp}
use Rattle.mc_port.specs.declared.stamped.Stamped.{Stamped}
use Rattle.mc_shard.specs.Journals.{EntryState, items_at, sent_at, taken_at, taken_list}
use Rattle.mc_shard_laws.specs.Logs.{own_of, owns, stamped, tagged, tagged_in}
use Rattle.mc_shard.specs.States.{FitsPlaces, IsAbove, IsJournal, MayFollow, Places, ShardState, after_entry, box_in, next_item, none_reached, numbered, numbered_if, places_of, raised_all, signal_of, state_after, step_in}
use Rattle.mc_shard_laws.specs.Together.{HasEnd, end_tunnels}
use Rattle.mc_shard.specs.declared.entry.AtEnd.{AtEnd}
use Rattle.mc_shard.specs.declared.entry.Numbered.{Numbered}
use Rattle.mc_shard.specs.declared.reached.Reached.{Reached}
use Rattle.mc_shard_laws.proofs.Lanes.{chosen, items_append, items_away, other_test, passed, same_test}

-- ---- the log of one box

pub own_here : (own : Own) (rest : List Own) (who : ℕ) → own.who ≡ who → own_log who (own ∷ rest) ≡ own.entry ∷ own_log who rest
own_here own rest who same = chosen (own.who == who) own.entry (own_log who rest) (same_test own.who who same)

pub own_away : (own : Own) (rest : List Own) (who : ℕ) → own.who ≢ who → own_log who (own ∷ rest) ≡ own_log who rest
own_away own rest who apart = passed (own.who == who) own.entry (own_log who rest) (other_test own.who who apart)

-- ---- boxes

signals_same : (taken : Option AtEnd) → signal_in (tagged_in taken) ≡ signal_of taken
signals_same None = refl
signals_same (Some one) = refl

makes : (places : Places) (a : ShardState) (entry : EntryState) → MayFollow places a entry
    → box_event (box_in a entry.who) entry.event (signal_in (tagged_in entry.taken)) ≡ Some (record { sent = (step_in a entry).sent; after = (step_in a entry).after })
makes places a entry follows = ap (λ (o : Option Signal). box_event (box_in a entry.who) entry.event o) (signals_same entry.taken) ∙ follows.goes

box_here : (a : ShardState) (entry : EntryState) (who : ℕ) → entry.who ≡ who → entry.who < length a.boxes → box_in (after_entry a entry) who ≡ (step_in a entry).after
box_here a entry who same inside =
    subst (λ (w : ℕ). box_in (after_entry a entry) w ≡ (step_in a entry).after) same (get_or-set_same a.boxes entry.who (step_in a entry).after no_box inside)

box_away : (a : ShardState) (entry : EntryState) (who : ℕ) → entry.who ≢ who → box_in (after_entry a entry) who ≡ box_in a who
box_away a entry who apart = get_or-set_other a.boxes entry.who who (step_in a entry).after no_box (λ same. apart (sym same))

pub journal_made : (entries : List EntryState) (places : Places) (a : ShardState) (who : ℕ) → IsJournal places a entries
    → AreMade (box_in a who) (own_log who (owns a entries)) (box_in (state_after a entries) who)
journal_made [] places a who journal = refl
journal_made (entry ∷ entries) places a who journal =
    let rest : AreMade (box_in (after_entry a entry) who) (own_log who (owns (after_entry a entry) entries)) (box_in (state_after (after_entry a entry) entries) who) =
    journal_made entries places (after_entry a entry) who journal.1 in
    elim (cases_eq entry.who who) [
      | inl same ↦
          subst (λ (l : List Entry). AreMade (box_in a who) l (box_in (state_after (after_entry a entry) entries) who)) (sym (own_here (own_of a entry) (owns (after_entry a entry) entries) who same)) (
            subst (λ (w : ℕ). box_event (box_in a w) entry.event (signal_in (tagged_in entry.taken)) ≡ Some (record { sent = (step_in a entry).sent; after = (step_in a entry).after })) same (makes places a entry journal.0),
            subst (λ (b : BoxState). AreMade b (own_log who (owns (after_entry a entry) entries)) (box_in (state_after (after_entry a entry) entries) who)) (box_here a entry who same journal.0.here) rest,
          )
      | inr apart ↦
          subst (λ (l : List Entry). AreMade (box_in a who) l (box_in (state_after (after_entry a entry) entries) who)) (sym (own_away (own_of a entry) (owns (after_entry a entry) entries) who apart))
          (subst (λ (b : BoxState). AreMade b (own_log who (owns (after_entry a entry) entries)) (box_in (state_after (after_entry a entry) entries) who)) (box_away a entry who apart) rest)
    ]

-- ---- stamps

pub journal_rises : (entries : List EntryState) (places : Places) (a : ShardState) → IsJournal places a entries → AreRising a.stamp (owns a entries) (state_after a entries).stamp
journal_rises [] places a journal =
    let same : a.stamp ≤ a.stamp = omega arith in
    same
journal_rises (entry ∷ entries) places a journal = (journal.0.rises, journal_rises entries places (after_entry a entry) journal.1)

-- ---- tunnels

fits_one : (event : Event) (taken : Option AtEnd) (slots : List (ℕ × ℕ)) (world : WorldState) (who : ℕ)
    → ((local : ℕ) → tunnel_at world who local ≡ option_map (λ (place : ℕ × ℕ). place.1) (slice_get slots local)) → FitsPlaces slots event taken → FitsTunnel world who event (tagged_in taken)
fits_one event None slots world who tunnels fits = tt
fits_one (Take local) (Some one) slots world who tunnels fits = tunnels local ∙ ap (λ (o : Option (ℕ × ℕ)). option_map (λ (place : ℕ × ℕ). place.1) o) fits
fits_one (Set change) (Some one) slots world who tunnels fits = absurd fits
fits_one (Media change) (Some one) slots world who tunnels fits = absurd fits
fits_one (Tell word) (Some one) slots world who tunnels fits = absurd fits
fits_one (Retry local) (Some one) slots world who tunnels fits = absurd fits
fits_one Shift (Some one) slots world who tunnels fits = absurd fits

abbrev Fit : WorldState → ℕ → List Entry → Type 0
Fit world who entries = AllByRecursion (λ (entry : Entry). FitsTunnel world who entry.event entry.taken) entries

pub journal_fits : (entries : List EntryState) (places : Places) (a : ShardState) (at : ℕ) (world : WorldState) (who : ℕ)
    → ((local : ℕ) → tunnel_at world who local ≡ option_map (λ (place : ℕ × ℕ). place.1) (slice_get (places_of places at) local)) → IsJournal places a entries
    → AllByRecursion (λ (entry : Entry). FitsTunnel world who entry.event entry.taken) (own_log at (owns a entries))
journal_fits [] places a at world who tunnels journal = tt
journal_fits (entry ∷ entries) places a at world who tunnels journal =
    let rest : Fit world who (own_log at (owns (after_entry a entry) entries)) = journal_fits entries places (after_entry a entry) at world who tunnels journal.1 in
    elim (cases_eq entry.who at) [
      | inl same ↦
          subst (λ (l : List Entry). Fit world who l) (sym (own_here (own_of a entry) (owns (after_entry a entry) entries) at same))
          (fits_one entry.event entry.taken (places_of places at) world who tunnels (subst (λ (w : ℕ). FitsPlaces (places_of places w) entry.event entry.taken) same journal.0.fits), rest)
      | inr apart ↦ subst (λ (l : List Entry). Fit world who l) (sym (own_away (own_of a entry) (owns (after_entry a entry) entries) at apart)) rest
    ]

-- ---- sendings

stamped_choice : (test : Bool) (item : Numbered) → map stamped ((if test then item ∷ [] else []) ++ []) ≡ (if test then stamped item ∷ [] else [])
stamped_choice true item = refl
stamped_choice false item = refl

sent_choice : (test : Bool) (tunnel stamp : ℕ) (signal : Signal) → sent_if (if test then Some tunnel else None) stamp signal ≡ (if test then record { stamp = stamp; tunnel = tunnel; signal = signal } ∷ [] else [])
sent_choice true tunnel stamp signal = refl
sent_choice false tunnel stamp signal = refl

send_if : (o : Option (ℕ × ℕ)) (end stamp : ℕ) (lanes : List Reached) (signal : Signal) → sent_if (tunnel_if_at end o) stamp signal ≡ map stamped (items_at end (numbered_if o stamp lanes signal))
send_if None end stamp lanes signal = refl
send_if (Some place) end stamp lanes signal =
    sent_choice (place.0 == end) place.1 stamp signal
    ∙ sym (stamped_choice (place.0 == end) (next_item (get_or lanes place.0 none_reached) stamp place.1 signal))

sends_one : (sent : List (ℕ × Signal)) (slots : List (ℕ × ℕ)) (end stamp : ℕ) (lanes : List Reached) → event_sends (tunnels_at slots end) stamp sent ≡ map stamped (items_at end (numbered slots stamp lanes sent))
sends_one [] slots end stamp lanes = refl
sends_one (sending ∷ sent) slots end stamp lanes =
    let here = numbered_if (slice_get slots sending.0) stamp lanes sending.1 in
    let rest = numbered slots stamp (raised_all lanes here) sent in
    ap (λ (l : List Stamped). l ++ event_sends (tunnels_at slots end) stamp sent) (send_if (slice_get slots sending.0) end stamp lanes sending.1)
    ∙ (ap (λ (l : List Stamped). map stamped (items_at end here) ++ l) (sends_one sent slots end stamp (raised_all lanes here))
    ∙ (sym (map-append stamped (items_at end here) (items_at end rest)) ∙ ap (λ (l : List Numbered). map stamped l) (sym (items_append end here rest))))

no_send_if : (o : Option (ℕ × ℕ)) (end stamp : ℕ) (lanes : List Reached) (signal : Signal) → ((tunnel : ℕ) → o ≡ Some (end, tunnel) → ⊥) → items_at end (numbered_if o stamp lanes signal) ≡ []
no_send_if None end stamp lanes signal none = refl
no_send_if (Some place) end stamp lanes signal none =
    items_away end (record { end = place.0; item = next_item (get_or lanes place.0 none_reached) stamp place.1 signal }) []
    (λ same. none place.1 (ap (λ (e : ℕ). Some (e, place.1)) same))

no_sends : (sent : List (ℕ × Signal)) (slots : List (ℕ × ℕ)) (end stamp : ℕ) (lanes : List Reached) → ((local tunnel : ℕ) → slice_get slots local ≡ Some (end, tunnel) → ⊥) → items_at end (numbered slots stamp lanes sent) ≡ []
no_sends [] slots end stamp lanes none = refl
no_sends (sending ∷ sent) slots end stamp lanes none =
    let here = numbered_if (slice_get slots sending.0) stamp lanes sending.1 in
    let rest = numbered slots stamp (raised_all lanes here) sent in
    items_append end here rest
    ∙ (ap (λ (l : List Numbered). l ++ items_at end rest) (no_send_if (slice_get slots sending.0) end stamp lanes sending.1 (none sending.0))
    ∙ no_sends sent slots end stamp (raised_all lanes here) none)

pub journal_sends : (entries : List EntryState) (places : Places) (a : ShardState) (who end : ℕ) → HasEnd places end who → IsJournal places a entries
    → log_sends (end_tunnels places who end) (own_log who (owns a entries)) ≡ map stamped (sent_at end entries)
journal_sends [] places a who end owner journal = refl
journal_sends (entry ∷ entries) places a who end owner journal =
    let rest : log_sends (end_tunnels places who end) (own_log who (owns (after_entry a entry) entries)) ≡ map stamped (sent_at end entries) =
    journal_sends entries places (after_entry a entry) who end owner journal.1 in
    let follows = journal.0 in
    elim (cases_eq entry.who who) [
      | inl same ↦
          ap (λ (l : List Entry). log_sends (end_tunnels places who end) l) (own_here (own_of a entry) (owns (after_entry a entry) entries) who same)
          ∙ (ap (λ (l : List Stamped). event_sends (end_tunnels places who end) entry.stamp (step_in a entry).sent ++ l) rest
          ∙ (ap (λ (l : List Stamped). l ++ map stamped (sent_at end entries))
          (sends_one (step_in a entry).sent (places_of places who) end entry.stamp a.sent
          ∙ ap (λ (l : List AtEnd). map stamped (items_at end l)) (ap (λ (w : ℕ). numbered (places_of places w) entry.stamp a.sent (step_in a entry).sent) (sym same) ∙ sym follows.sent))
          ∙ sym (map-append stamped (items_at end entry.sent) (sent_at end entries))))
      | inr apart ↦
          let none : items_at end entry.sent ≡ [] =
          ap (λ (l : List AtEnd). items_at end l) follows.sent
          ∙ no_sends (step_in a entry).sent (places_of places entry.who) end entry.stamp a.sent (λ local tunnel at. apart (owner entry.who local tunnel at)) in
          ap (λ (l : List Entry). log_sends (end_tunnels places who end) l) (own_away (own_of a entry) (owns (after_entry a entry) entries) who apart)
          ∙ (rest ∙ ap (λ (l : List Numbered). map stamped (l ++ sent_at end entries)) (sym none))
    ]

-- ---- takings

claims_join : (taken taken_2 claims claims_2 : List Stamped) → AreClaims taken claims → AreClaims taken_2 claims_2 → AreClaims (taken ++ taken_2) (claims ++ claims_2)
claims_join [] taken_2 [] claims_2 are are_2 = are_2
claims_join [] taken_2 (claim ∷ claims) claims_2 are are_2 = absurd are
claims_join (taking ∷ taken) taken_2 [] claims_2 are are_2 = absurd are
claims_join (taking ∷ taken) taken_2 (claim ∷ claims) claims_2 are are_2 = (are.0, are.1, claims_join taken taken_2 claims claims_2 are.2 are_2)

claim_choice : (test : Bool) (one : AtEnd) (stamp : ℕ) → one.item.stamp < stamp
    → AreClaims (map (with_stamp stamp) (taken_if (if test then Some one.item.tunnel else None) (tagged one.item))) (map stamped ((if test then one.item ∷ [] else []) ++ []))
claim_choice true one stamp above = (refl, above, tt)
claim_choice false one stamp above = tt

takes_one : (event : Event) (taken : Option AtEnd) (slots : List (ℕ × ℕ)) (end stamp : ℕ) → FitsPlaces slots event taken → IsAbove taken stamp
    → AreClaims (map (with_stamp stamp) (event_takes (tunnels_at slots end) event (tagged_in taken))) (map stamped (items_at end (taken_list taken)))
takes_one event None slots end stamp fits above = tt
takes_one (Take local) (Some one) slots end stamp fits above =
    subst (λ (o : Option (ℕ × ℕ)). AreClaims (map (with_stamp stamp) (taken_if (tunnel_if_at end o) (tagged one.item))) (map stamped (items_at end (one ∷ [])))) (sym fits)
    (claim_choice (one.end == end) one stamp above)
takes_one (Set change) (Some one) slots end stamp fits above = absurd fits
takes_one (Media change) (Some one) slots end stamp fits above = absurd fits
takes_one (Tell word) (Some one) slots end stamp fits above = absurd fits
takes_one (Retry local) (Some one) slots end stamp fits above = absurd fits
takes_one Shift (Some one) slots end stamp fits above = absurd fits

takes_none : (event : Event) (taken : Option AtEnd) (slots : List (ℕ × ℕ)) (end : ℕ) → FitsPlaces slots event taken → ((local tunnel : ℕ) → slice_get slots local ≡ Some (end, tunnel) → ⊥)
    → items_at end (taken_list taken) ≡ []
takes_none event None slots end fits none = refl
takes_none (Take local) (Some one) slots end fits none =
    items_away end one [] (λ same. none local one.item.tunnel (fits ∙ ap (λ (e : ℕ). Some (e, one.item.tunnel)) same))
takes_none (Set change) (Some one) slots end fits none = absurd fits
takes_none (Media change) (Some one) slots end fits none = absurd fits
takes_none (Tell word) (Some one) slots end fits none = absurd fits
takes_none (Retry local) (Some one) slots end fits none = absurd fits
takes_none Shift (Some one) slots end fits none = absurd fits

pub journal_takes : (entries : List EntryState) (places : Places) (a : ShardState) (who end : ℕ) → HasEnd places end who → IsJournal places a entries
    → AreClaims (takings (end_tunnels places who end) (own_log who (owns a entries))) (map stamped (taken_at end entries))
journal_takes [] places a who end owner journal = tt
journal_takes (entry ∷ entries) places a who end owner journal =
    let later = owns (after_entry a entry) entries in
    let rest : AreClaims (takings (end_tunnels places who end) (own_log who later)) (map stamped (taken_at end entries)) = journal_takes entries places (after_entry a entry) who end owner journal.1 in
    let follows = journal.0 in
    elim (cases_eq entry.who who) [
      | inl same ↦
          subst (λ (l : List Entry). AreClaims (takings (end_tunnels places who end) l) (map stamped (items_at end (taken_list entry.taken) ++ taken_at end entries))) (sym (own_here (own_of a entry) later who same))
          (subst (λ (l : List Stamped). AreClaims (map (with_stamp entry.stamp) (event_takes (end_tunnels places who end) entry.event (tagged_in entry.taken)) ++ takings (end_tunnels places who end) (own_log who later)) l)
          (sym (map-append stamped (items_at end (taken_list entry.taken)) (taken_at end entries)))
          (claims_join (map (with_stamp entry.stamp) (event_takes (end_tunnels places who end) entry.event (tagged_in entry.taken))) (takings (end_tunnels places who end) (own_log who later))
          (map stamped (items_at end (taken_list entry.taken))) (map stamped (taken_at end entries))
          (takes_one entry.event entry.taken (places_of places who) end entry.stamp (subst (λ (w : ℕ). FitsPlaces (places_of places w) entry.event entry.taken) same follows.fits) follows.above)
          rest))
      | inr apart ↦
          let none : items_at end (taken_list entry.taken) ≡ [] = takes_none entry.event entry.taken (places_of places entry.who) end follows.fits (λ local tunnel at. apart (owner entry.who local tunnel at)) in
          subst (λ (l : List Entry). AreClaims (takings (end_tunnels places who end) l) (map stamped (items_at end (taken_list entry.taken) ++ taken_at end entries))) (sym (own_away (own_of a entry) later who apart))
          (subst (λ (l : List Numbered). AreClaims (takings (end_tunnels places who end) (own_log who later)) (map stamped (l ++ taken_at end entries))) (sym none) rest)
    ]
