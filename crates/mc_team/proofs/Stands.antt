-- The worker of a box as it was made ready for a round, and what it logged.
use Rattle.std.proofs.Common.{◌≡◌, ◌⊎◌, inl, inr, ℕ, ◌<◌, ◌^◌, Bool, true, false, MatchBool, IsTrue, List, [], ◌++◌, length, map, slice_index_or, refl, ap, sym, ◌∙◌, subst, arith}
use Rattle.std.proofs.lemmas.List.{append-nil}
use Rattle.mc_box.specs.BoxEvents.{is_enabled}
use Rattle.mc_box.specs.Boxes.{BoxState}
use Rattle.mc_box.specs.declared.event.Event.TheVariants.{Retry, Shift}
use Rattle.mc_box.specs.declared.limit.TheConstants.{SHIFT_LIMIT}
use Rattle.mc_port.specs.Entries.{Claimed}
use Rattle.mc_signal.specs.declared.Tagged.{Tagged}
use Rattle.mc_team.specs.Runs.{HaveRun, IsLookedAt, IsRan}
use Rattle.mc_team.specs.Turns.{HasEndsOf, HasWorked, HaveWorked}
use Rattle.mc_team.specs.declared.member.Member.{Member}
use Rattle.mc_worker.specs.Account.{IsWork, in_at, logged, out_at}
use Rattle.mc_worker.specs.Ends.{InAccount, InEnd, OutAccount, OutEnd, unclaimed}
use Rattle.mc_worker.specs.Ready.{IsReady}
use Rattle.mc_worker.specs.Rounds.{HasWaitingWork, OwesRetry, waiting_retry, waiting_shift, waiting_signal, waiting_stimulus}
use Rattle.mc_worker.specs.declared.logged.Logged.{Logged}
use Rattle.mc_worker.specs.declared.worker.Worker.{Worker}

-- ---- a box that is looked at

-- what looking for work leaves as it is
pub record IsKept (a b : Worker) : Type 0 where
  pub part : b.part ≡ a.part
  pub place : b.place ≡ a.place
  pub ins : b.ins ≡ a.ins
  pub outs : b.outs ≡ a.outs
  pub inboxes : b.inboxes ≡ a.inboxes
  pub outboxes : b.outboxes ≡ a.outboxes
  pub stimuli : b.stimuli ≡ a.stimuli
  pub shifts : b.shifts ≡ a.shifts

-- it goes both ways
pub kept_back : (a b : Worker) → IsKept a b → IsKept b a
kept_back a b kept = record {
  part = sym kept.part;
  place = sym kept.place;
  ins = sym kept.ins;
  outs = sym kept.outs;
  inboxes = sym kept.inboxes;
  outboxes = sym kept.outboxes;
  stimuli = sym kept.stimuli;
  shifts = sym kept.shifts;
}

-- a box that was looked at keeps all that
pub kept_by : (a b : Member) → IsLookedAt a b → IsKept a.worker b.worker
kept_by a b looked = record {
  part = ap (λ (s : Member). s.worker.part) looked.kept;
  place = ap (λ (s : Member). s.worker.place) looked.kept;
  ins = ap (λ (s : Member). s.worker.ins) looked.kept;
  outs = ap (λ (s : Member). s.worker.outs) looked.kept;
  inboxes = ap (λ (s : Member). s.worker.inboxes) looked.kept;
  outboxes = ap (λ (s : Member). s.worker.outboxes) looked.kept;
  stimuli = ap (λ (s : Member). s.worker.stimuli) looked.kept;
  shifts = ap (λ (s : Member). s.worker.shifts) looked.kept;
}

-- a box that is the same owes the same
owes_on : (a b : BoxState) → b ≡ a → OwesRetry a → OwesRetry b
owes_on a b same owes = record { slot = owes.slot; owed = subst (λ (box : BoxState). IsTrue (is_enabled box (Retry owes.slot))) (sym same) owes.owed }

-- so what waits is the same
pub waiting_on : (retries : Bool) (a b : Worker) → IsKept a b → HasWaitingWork retries a → HasWaitingWork retries b
waiting_on retries a b kept (waiting_stimulus some) = waiting_stimulus (λ none. some (sym (ap (λ q. q.items) kept.stimuli) ∙ none))
waiting_on retries a b kept (waiting_shift less on) =
    waiting_shift (subst (λ (n : ℕ). n < SHIFT_LIMIT) (sym kept.shifts) less) (subst (λ (box : BoxState). IsTrue (is_enabled box Shift)) (sym kept.part) on)
waiting_on retries a b kept (waiting_signal end some) = waiting_signal end (λ none. some (sym (ap (λ (l : List (List Tagged)). slice_index_or l end []) kept.inboxes) ∙ none))
waiting_on retries a b kept (waiting_retry on owes) = waiting_retry on (owes_on a.part b.part kept.part owes)

-- ---- a box that makes no round

-- where nothing was taken the account is empty
in_still : (end : InEnd) → InAccount end end []
in_still end = record {
  gave = [];
  ring = sym (append-nil end.got);
  order = sym (append-nil (map unclaimed end.inbox));
  whole = inl refl;
  knows = ([], append-nil (end.got ++ end.known));
  looks = omega arith;
}

-- where nothing was given, too
out_still : (end : OutEnd) → OutAccount end end []
out_still end = record {
  put = [];
  kept = [];
  ring = sym (append-nil end.given);
  outbox = sym (append-nil end.outbox);
  order = refl;
  back = refl;
  waits = λ some. (refl, refl);
  full = λ empty some. absurd (some refl);
  places = omega arith;
}

-- a worker that makes no turn
still : (worker : Worker) → IsWork worker worker []
still worker = record {
  made = refl;
  stamps = tt;
  last = refl;
  claims = tt;
  fits = tt;
  ins = λ end. in_still (in_at worker end);
  outs = λ end. out_still (out_at worker end);
  stimuli = refl;
  shifts = omega arith;
  logs = sym (append-nil worker.log.items);
  place = refl;
  in_rings = refl;
  out_rings = refl;
}

-- ---- a box in a round

-- a box that had work made a round, and the log is that of its account
pub record MadeOne (retries : Bool) (a b c : Member) (log : List Claimed) : Type 0 where
  pub works : HasWaitingWork retries a.worker
  pub ran : IsRan retries b c
  pub own : log ≡ ran.round.log

-- another one logged nothing
pub record MadeNone (retries : Bool) (a b c : Member) (log : List Claimed) : Type 0 where
  pub idle : HasWaitingWork retries a.worker → ⊥
  pub same : c ≡ b
  pub none : log ≡ []

-- a box in a round, with its log
pub record BoxRound (retries : Bool) (a c : Member) (log : List Claimed) : Type 0 where
  pub looked : Member
  pub looks : IsLookedAt a looked
  pub did : MadeOne retries a looked c log ⊎ MadeNone retries a looked c log

-- what waits for a box that was looked at had waited for it, and the other way round
pub waited : (retries : Bool) (a b : Member) → IsLookedAt a b → HasWaitingWork retries b.worker → HasWaitingWork retries a.worker
waited retries a b looks = waiting_on retries b.worker a.worker (kept_back a.worker b.worker (kept_by a b looks))

-- the log of a round has as many entries as the round has turns
log_short : (retries : Bool) (b c : Member) → (ran : IsRan retries b c) → length ran.round.log < 2 ^ 32
log_short retries b c ran = omega (arith, ran.round.turns, ran.most)

-- a box that was looked at has all that stands at its channel ends
ends_by : (a b : Member) → IsLookedAt a b → HasEndsOf a.worker b.worker
ends_by a b looks =
    let kept = kept_by a b looks in
    record { part = kept.part; place = kept.place; ins = kept.ins; outs = kept.outs; inboxes = kept.inboxes; outboxes = kept.outboxes }

worked_by : (retries works : Bool) (a b c : Member) → IsLookedAt a b → MatchBool works (HasWaitingWork retries b.worker × IsRan retries b c) ((HasWaitingWork retries b.worker → ⊥) × (c ≡ b))
    → (before : Worker) × (log : List Claimed) × HasWorked a c before log × BoxRound retries a c log
worked_by retries true a b c looks did =
    let ran = did.1 in (
      b.worker,
      ran.round.log,
      record {
        ends = ends_by a b looks;
        stamp = ap (λ (s : Member). s.worker.stamp) looks.kept;
        work = ran.round.account.work;
        logs = ran.round.account.work.logs ∙ ap (λ (l : List Logged). l ++ map logged ran.round.log) looks.log;
        short = log_short retries b c ran;
        ready = ran.ready;
      },
      record { looked = b; looks = looks; did = inl (record { works = waited retries a b looks did.0; ran = ran; own = refl }) },
    )
worked_by retries false a b c looks did = (
  b.worker,
  [],
  record {
    ends = ends_by a b looks;
    stamp = ap (λ (s : Member). s.worker.stamp) looks.kept;
    work = subst (λ (s : Member). IsWork b.worker s.worker []) (sym did.1) (still b.worker);
    logs = ap (λ (s : Member). s.worker.log.items) did.1 ∙ looks.log;
    short = omega arith;
    ready = subst (λ (s : Member). IsReady s.worker) (sym did.1) looks.ready;
  },
  record {
    looked = b;
    looks = looks;
    did = inr (record { idle = λ work. did.0 (waiting_on retries a.worker b.worker (kept_by a b looks) work); same = did.1; none = refl });
  },
)

-- so each box of a round has made turns
pub have_worked : {retries : Bool} {old ran : List Member} → HaveRun retries old ran → HaveWorked (λ (who : ℕ). BoxRound retries) old ran
have_worked {retries = retries} {old = old} {ran = ran} run = record {
  count = run.count;
  each = λ who a c p q. let h = run.each who a c p q in worked_by retries h.works a h.looked c h.looks h.did;
}
