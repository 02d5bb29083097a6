-- A box that is made ready for a round.
use Rattle.std.proofs.Common.{◌≡◌, ◌<◌, ℕ, [], List, length, slice_index_or, None, refl, subst, Bool, true, false, MatchBool}
use Rattle.std.proofs.lemmas.Option.{get_or_from_slice_get, slice_get_within}
use Rattle.mc_lane.specs.Queue.{Queue}
use Rattle.mc_team.specs.Runs.{HasRun, HaveRun, IsLookedAt, IsRan, cleared}
use Rattle.mc_team.specs.declared.member.Member.{Member}
use Rattle.mc_worker.specs.Ready.{IsReady}
use Rattle.mc_worker.specs.Rounds.{HasWaitingWork}
use Rattle.mc_worker.specs.declared.logged.Logged.{Logged}
use Rattle.mc_worker.specs.declared.worker.Worker.{Worker}

-- with an empty log a worker stays ready
cleared_ready : (worker : Worker) (log : Queue Logged) → IsReady worker → IsReady (cleared worker log)
cleared_ready worker log ready = record {
  shaped = record {
    places = ready.shaped.places;
    ends = ready.shaped.ends;
    outs = ready.shaped.outs;
    inboxes = ready.shaped.inboxes;
    outboxes = ready.shaped.outboxes;
    few = ready.shaped.few;
    scratch = ready.shaped.scratch;
  };
  allowed = ready.allowed;
  shifts = ready.shifts;
}

pub looked_at : (old : Member) (log : Queue Logged) → IsReady old.worker → log.items ≡ [] → IsLookedAt old (record { worker = cleared old.worker log; end = None })
looked_at old log ready empty = record { log = empty; kept = refl; ready = cleared_ready old.worker log ready }

-- a box that was looked at made a round where something waited
pub has_run : (retries works : Bool) (a b c : Member) → IsLookedAt a b → MatchBool works (HasWaitingWork retries b.worker) (HasWaitingWork retries b.worker → ⊥) → MatchBool works (IsRan retries b c) (c ≡ b) → HasRun retries a c
has_run retries true a b c looks work ran = record { looked = b; looks = looks; works = true; did = (work, ran) }
has_run retries false a b c looks none same = record { looked = b; looks = looks; works = false; did = (none, same) }

-- where each has run, by its place, all have
pub have_run : (retries : Bool) (old new : List Member) → length new ≡ length old → ((i : ℕ) (d : Member) → i < length old → HasRun retries (slice_index_or old i d) (slice_index_or new i d)) → HaveRun retries old new
have_run retries old new count all = record {
  count = count;
  each = λ who a b p q.
      subst (λ (s : Member). HasRun retries s b) (get_or_from_slice_get old who a a p)
      (subst (λ (s : Member). HasRun retries (slice_index_or old who a) s) (get_or_from_slice_get new who b a q) (all who a (slice_get_within old who a p)));
}
