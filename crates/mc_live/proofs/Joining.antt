-- Rounds one after the other, with commands that come between them, as one run.
use Rattle.std.proofs.Common.{◌≡◌, ℕ, suc, ◌+◌, ◌*◌, ◌^◌, ◌<◌, ◌≤◌, max, Bool, false, true, if◌then◌else◌, List, [], ◌∷◌, ◌++◌, inl, inr, refl, sym, ◌∙◌, ap, subst, length, map, append_assoc, arith, length-append}
use Rattle.std.specs.List.{AllByRecursion}
use Rattle.std.proofs.lemmas.List.{append-nil}
use Rattle.mc_box.specs.BoxEvents.{is_take}
use Rattle.mc_box.specs.BoxShapes.{box_shape}
use Rattle.mc_box.specs.declared.event.Event.{Event}
use Rattle.mc_lane.specs.Queue.{Queue}
use Rattle.mc_live.specs.Accounts.{HasRun, with_commands}
use Rattle.mc_port.specs.Entries.{AreStamped, Claimed, claim_of, count_sent, events_that, last_stamp}
use Rattle.mc_worker.specs.Account.{ClaimsWithin, IsAccount, IsWork, JoinAccounts, in_at, out_at}
use Rattle.mc_worker.specs.Ends.{InAccount, InEnd, OutAccount, OutEnd, unclaimed}
use Rattle.mc_worker.specs.Ready.{IsReady}
use Rattle.mc_worker.specs.Rounds.{IsRound}
use Rattle.mc_worker.specs.declared.limit.TheConstants.{STAMP_LIMIT}
use Rattle.mc_worker.specs.declared.stop.RoundEnd.{RoundEnd}
use Rattle.mc_worker.specs.declared.worker.Worker.{Worker}

-- ---- where nothing is done

in_still : (end : InEnd) → InAccount end end []
in_still end = record {
  gave = [];
  ring = sym (append-nil end.got);
  order = sym (append-nil (map unclaimed end.inbox));
  whole = inl refl;
  knows = ([], append-nil (end.got ++ end.known));
  looks = omega arith;
}

out_still : (end : OutEnd) → OutAccount end end []
out_still end = record {
  put = [];
  kept = [];
  ring = sym (append-nil end.given);
  outbox = sym (append-nil end.outbox);
  order = refl;
  back = refl;
  waits = λ some. (refl, refl);
  full = λ empty some. absurd (some refl);
  places = omega arith;
}

still : (worker : Worker) → IsWork worker worker []
still worker = record {
  made = refl;
  stamps = tt;
  last = refl;
  claims = tt;
  fits = tt;
  ins = λ end. in_still (in_at worker end);
  outs = λ end. out_still (out_at worker end);
  stimuli = refl;
  shifts = omega arith;
  logs = sym (append-nil worker.log.items);
  place = refl;
  in_rings = refl;
  out_rings = refl;
}

no_account : (worker : Worker) → IsReady worker → IsAccount false false worker worker []
no_account worker ready = record {
  work = still worker;
  first = [];
  rest = [];
  parts = refl;
  below = length worker.part.slots;
  retried = refl;
  whole = inr refl;
  no_other = refl;
  few_shifts = ready.shifts;
}

-- ---- numbers of logs

sent_joined : (es fs : List Claimed) → count_sent (es ++ fs) ≡ count_sent es + count_sent fs
sent_joined [] fs = omega arith
sent_joined (e ∷ es) fs = let rest = sent_joined es fs in omega arith

takes_joined : (es fs : List Claimed) → length (events_that is_take (es ++ fs)) ≡ length (events_that is_take es) + length (events_that is_take fs)
takes_joined [] fs = omega arith
takes_joined (e ∷ es) fs =
    let one : List Event = if is_take e.entry.event then e.entry.event ∷ [] else [] in
    let rest = takes_joined es fs in
    let left : length (one ++ events_that is_take (es ++ fs)) ≡ length one + length (events_that is_take (es ++ fs)) = length-append one (events_that is_take (es ++ fs)) in
    let right : length (one ++ events_that is_take es) ≡ length one + length (events_that is_take es) = length-append one (events_that is_take es) in
    omega arith

one_at_most : (t : Bool) (event : Event) → length (if t then event ∷ [] else []) ≤ 1
one_at_most true event = omega arith
one_at_most false event = omega arith

takes_few : (es : List Claimed) → length (events_that is_take es) ≤ length es
takes_few [] = omega arith
takes_few (e ∷ es) =
    let one : List Event = if is_take e.entry.event then e.entry.event ∷ [] else [] in
    let rest = takes_few es in
    let few : length one ≤ 1 = one_at_most (is_take e.entry.event) e.entry.event in
    let all : length (one ++ events_that is_take es) ≡ length one + length (events_that is_take es) = length-append one (events_that is_take es) in
    omega arith

-- a round without a turn sends nothing, so a number that fits is few by the turns
sends_few : (log : List Claimed) (sent : ℕ) → sent ≡ count_sent log → sent < 2 ^ 32 → sent ≤ 2 ^ 32 * length log
sends_few [] sent is fits = omega arith
sends_few (e ∷ es) sent is fits = omega arith

-- what is taken has small stamps, so a stamp is not far above them
stamps_low : (log : List Claimed) (before more : ℕ) → before ≤ STAMP_LIMIT + more → AreStamped before log → AllByRecursion ClaimsWithin log → last_stamp before log ≤ STAMP_LIMIT + (more + length log)
stamps_low [] before more low stamped within = omega arith
stamps_low (e ∷ es) before more low stamped within =
    let claim : claim_of e.entry.taken e.claim ≤ STAMP_LIMIT = within.0 in
    let is : e.entry.stamp ≡ max before (claim_of e.entry.taken e.claim) + 1 = stamped.0 in
    let next : e.entry.stamp ≤ STAMP_LIMIT + suc more = omega (arith, claim, is, low) in
    let rest = stamps_low es e.entry.stamp (suc more) next stamped.1 within.1 in
    omega (arith, rest)

-- ---- a run

-- a box that has done nothing yet
pub begin : (worker : Worker) → IsReady worker → worker.stamp ≤ STAMP_LIMIT → HasRun worker worker [] 0 0 0
begin worker ready low = record {
  run = record { log = []; before = worker.stimuli; before_is = sym (append-nil worker.stimuli.items); account = no_account worker ready; turns_is = refl; sent_is = refl; took_is = refl };
  ready = ready;
  shape = refl;
  stamp = omega arith;
  few_sent = omega arith;
  few_took = omega arith;
}

-- a command more
pub add_command : JoinAccounts → (a b : Worker) (added : List Event) (turns sent took : ℕ) (stimuli : Queue Event) (event : Event) → stimuli.items ≡ b.stimuli.items ++ event ∷ [] → IsReady (with_commands b stimuli)
    → HasRun a b added turns sent took → HasRun a (with_commands b stimuli) (added ++ event ∷ []) turns sent took
add_command law a b added turns sent took stimuli event is ready has =
    let run = has.run in
    let all : Queue Event = record { items = a.stimuli.items ++ (added ++ event ∷ []); spare = 0 } in
    let before_is : all.items ≡ run.before.items ++ event ∷ [] =
    sym (append_assoc a.stimuli.items added (event ∷ [])) ∙ ap (λ (l : List Event). l ++ event ∷ []) (sym run.before_is) in
    let joined : IsAccount false false (with_commands a all) (with_commands b stimuli) (run.log ++ []) =
    law false false false (with_commands a run.before) b (with_commands b stimuli) all stimuli (event ∷ []) run.log [] before_is is run.account (no_account (with_commands b stimuli) ready) in
    record {
      run = record {
        log = run.log;
        before = all;
        before_is = refl;
        account = subst (λ (l : List Claimed). IsAccount false false (with_commands a all) (with_commands b stimuli) l) (append-nil run.log) joined;
        turns_is = run.turns_is;
        sent_is = run.sent_is;
        took_is = run.took_is;
      };
      ready = ready;
      shape = has.shape;
      stamp = has.stamp;
      few_sent = has.few_sent;
      few_took = has.few_took;
    }

-- a round more
pub add_round : JoinAccounts → (a b c : Worker) (added : List Event) (turns sent took : ℕ) (end : RoundEnd) → IsRound false b c end → IsReady c → box_shape c.part ≡ box_shape b.part → end.sent < 2 ^ 32
    → HasRun a b added turns sent took → HasRun a c added (turns + end.turns) (sent + end.sent) (took + end.took)
add_round law a b c added turns sent took end round ready shape fits has =
    let run = has.run in
    let work = round.account.work in
    let few : end.sent ≤ 2 ^ 32 * length round.log = sends_few round.log end.sent round.sent fits in
    let taken : length (events_that is_take round.log) ≤ length round.log = takes_few round.log in
    let low : last_stamp b.stamp round.log ≤ STAMP_LIMIT + (turns + length round.log) = stamps_low round.log b.stamp turns has.stamp work.stamps work.claims in
    record {
      run = record {
        log = run.log ++ round.log;
        before = run.before;
        before_is = run.before_is;
        account = law false false _ (with_commands a run.before) b c run.before b.stimuli [] run.log round.log (sym (append-nil run.before.items)) (sym (append-nil b.stimuli.items)) run.account round.account;
        turns_is = omega (arith, length-append run.log round.log, run.turns_is, round.turns);
        sent_is = omega (arith, sent_joined run.log round.log, run.sent_is, round.sent);
        took_is = omega (arith, takes_joined run.log round.log, run.took_is, round.took);
      };
      ready = ready;
      shape = shape ∙ has.shape;
      stamp = omega (arith, low, work.last, round.turns);
      few_sent = omega (arith, few, has.few_sent, round.turns);
      few_took = omega (arith, taken, has.few_took, round.turns, round.took);
    }
