-- Two accounts, one after the other, are one.
use Rattle.std.proofs.Common.{◌≡◌, ◌≢◌, ℕ, ◌+◌, ◌≤◌, Bool, if◌then◌else◌, List, [], ◌∷◌, ◌++◌, ◌⊎◌, inl, inr, refl, sym, ◌∙◌, ap, subst, length, map, append_assoc, arith, length-append}
use mathlib.Core.List.{IsPrefix}
use Rattle.std.specs.List.{AllByRecursion}
use Rattle.std.proofs.lemmas.Grind.{common_steps}
use Rattle.std.proofs.lemmas.List.{append-nil}
use Rattle.mc_box.specs.BoxEvents.{is_command, is_retry, is_shift, is_take}
use Rattle.mc_box.specs.Boxes.{BoxState}
use Rattle.mc_box.specs.declared.event.Event.{Event}
use Rattle.mc_lane.specs.Queue.{Queue}
use Rattle.mc_port.specs.Entries.{Claimed, AreMade, AreStamped, count_sent, entries_of, event_of, events_that, last_stamp}
use Rattle.mc_port.specs.Tunnels.{FitsPlace, Tunnels, event_sends, event_takes, log_sends, log_takes, tunnels_at}
use Rattle.mc_port.specs.Ends.{with_stamp}
use Rattle.mc_port.specs.declared.stamped.Stamped.{Stamped}
use Rattle.mc_signal.specs.declared.Tagged.{Tagged}
use Rattle.mc_worker.specs.Account.{IsWork, JoinAccounts, in_at, out_at}
use Rattle.mc_worker.specs.Ends.{InAccount, InEnd, OutAccount, OutEnd, back_after, unclaimed}
use Rattle.mc_worker.specs.Turns.{AreAdded, AreTurns, BeginsByStimulus}
use Rattle.mc_worker.specs.declared.progress.Progress.{Progress}
use Rattle.mc_worker.specs.declared.worker.Worker.{Worker}

no_cons_eq : {X : Type 0} (xs : List X) (y : X) (ys : List X) → xs ++ y ∷ ys ≢ []
no_cons_eq [] y ys e = cc
no_cons_eq (x ∷ xs) y ys e = cc

-- ---- at one end

-- an outbox in which something waits leaves the count
pub back_waits : (kept outbox : List Stamped) (count : ℕ) → outbox ≢ [] → back_after kept outbox count ≡ count
back_waits [] outbox count some = refl
back_waits (item ∷ kept) [] count some = absurd (some refl)
back_waits (item ∷ kept) (one ∷ outbox) count some = refl

-- only the first that it gets is counted
back_first : (item : Stamped) (kept more outbox : List Stamped) (count : ℕ) → back_after (item ∷ kept) outbox count ≡ back_after (item ∷ (kept ++ more)) outbox count
back_first item kept more [] count = refl
back_first item kept more (one ∷ outbox) count = refl

out_joined_at : (a b c : OutEnd) (xs ys p_put p_kept q_put q_kept : List Stamped)
    → b.given ≡ a.given ++ p_put → b.outbox ≡ a.outbox ++ p_kept → xs ≡ p_put ++ p_kept → b.back ≡ back_after p_kept a.outbox a.back
    → (a.outbox ≢ [] → (p_put ≡ []) × (b.free ≡ a.free)) → (a.outbox ≡ [] → p_kept ≢ [] → b.free ≡ 0) → a.free ≤ b.free + length p_put
    → c.given ≡ b.given ++ q_put → c.outbox ≡ b.outbox ++ q_kept → ys ≡ q_put ++ q_kept → c.back ≡ back_after q_kept b.outbox b.back
    → (b.outbox ≢ [] → (q_put ≡ []) × (c.free ≡ b.free)) → (b.outbox ≡ [] → q_kept ≢ [] → c.free ≡ 0) → b.free ≤ c.free + length q_put
    → OutAccount a c (xs ++ ys)
out_joined_at a b c xs ys p_put [] q_put q_kept pr po px pb pw pf pl qr qo qy qb qw qf ql =
    record {
      put = p_put ++ q_put;
      kept = q_kept;
      ring = grind (arith, common_steps);
      outbox = grind (arith, common_steps, append-nil);
      order = grind (arith, common_steps, append-nil);
      back = qb ∙ (ap (λ (l : List Stamped). back_after q_kept l b.back) (po ∙ append-nil a.outbox) ∙ ap (back_after q_kept a.outbox) pb);
      waits = λ h. grind (arith, common_steps, append-nil);
      full = λ h k. grind (arith, common_steps, append-nil);
      places = omega (arith, length-append p_put q_put);
    }
out_joined_at a b c xs ys p_put (k ∷ ks) q_put q_kept pr po px pb pw pf pl qr qo qy qb qw qf ql =
    let waiting : b.outbox ≢ [] = λ e. no_cons_eq a.outbox k ks (sym po ∙ e) in
    let quiet = qw waiting in
    record {
      put = p_put;
      kept = (k ∷ ks) ++ q_kept;
      ring = grind (arith, common_steps, append-nil);
      outbox = grind (arith, common_steps);
      order = grind (arith, common_steps);
      back = qb ∙ (back_waits q_kept b.outbox b.back waiting ∙ (pb ∙ back_first k ks q_kept a.outbox a.back));
      waits = λ h. grind (arith, common_steps);
      full = λ h j. grind (arith, common_steps);
      places = grind (arith, common_steps);
    }

pub out_joined : (a b c : OutEnd) (xs ys : List Stamped) → OutAccount a b xs → OutAccount b c ys → OutAccount a c (xs ++ ys)
out_joined a b c xs ys p q = out_joined_at a b c xs ys p.put p.kept q.put q.kept p.ring p.outbox p.order p.back p.waits p.full p.places q.ring q.outbox q.order q.back q.waits q.full q.places

last_empty : (ys : List Stamped) (pairs : List Tagged) → ys ++ map unclaimed pairs ≡ [] → pairs ≡ []
last_empty ys [] e = refl
last_empty ys (pair ∷ pairs) e = absurd (no_cons_eq ys _ _ e)

whole_joined : (p_gave q_gave : List Stamped) (b_inbox c_inbox : List Tagged) (ys : List Stamped) → (p_gave ≡ []) ⊎ (b_inbox ≡ []) → (q_gave ≡ []) ⊎ (c_inbox ≡ [])
    → ys ++ map unclaimed c_inbox ≡ map unclaimed b_inbox ++ q_gave → (p_gave ++ q_gave ≡ []) ⊎ (c_inbox ≡ [])
whole_joined p_gave q_gave b_inbox c_inbox ys pw (inr e) qo = inr e
whole_joined p_gave q_gave b_inbox c_inbox ys (inl d) (inl e) qo = inl (rw (d, e) refl)
whole_joined p_gave q_gave b_inbox c_inbox ys (inr d) (inl e) qo = inr (last_empty ys c_inbox (rw (d, e) at qo))

prefix_on : (xs ys zs : List Stamped) → IsPrefix xs ys → IsPrefix ys zs → IsPrefix xs zs
prefix_on xs ys zs p q = (p.0 ++ q.0, sym (append_assoc xs p.0 q.0) ∙ (ap (λ (l : List Stamped). l ++ q.0) p.1 ∙ q.1))

-- what is known grows at its end, and what is taken leaves its front
pub looked_on : (got known more : List Stamped) → IsPrefix known more → IsPrefix (got ++ known) (got ++ more)
looked_on got known more p = (p.0, append_assoc got known p.0 ∙ ap (λ (l : List Stamped). got ++ l) p.1)

pub took_on : (got known more : List Stamped) (item : Stamped) → IsPrefix known (item ∷ more) → IsPrefix (got ++ known) ((got ++ item ∷ []) ++ more)
took_on got known more item p = (p.0, append_assoc got known p.0 ∙ (ap (λ (l : List Stamped). got ++ l) p.1 ∙ sym (append_assoc got (item ∷ []) more)))

in_joined_at : (a b c : InEnd) (xs ys p_gave q_gave : List Stamped)
    → b.got ≡ a.got ++ p_gave → xs ++ map unclaimed b.inbox ≡ map unclaimed a.inbox ++ p_gave → (p_gave ≡ []) ⊎ (b.inbox ≡ []) → IsPrefix (a.got ++ a.known) (b.got ++ b.known) → a.looks ≤ b.looks
    → c.got ≡ b.got ++ q_gave → ys ++ map unclaimed c.inbox ≡ map unclaimed b.inbox ++ q_gave → (q_gave ≡ []) ⊎ (c.inbox ≡ []) → IsPrefix (b.got ++ b.known) (c.got ++ c.known) → b.looks ≤ c.looks
    → InAccount a c (xs ++ ys)
in_joined_at a b c xs ys p_gave q_gave pr po pw pk pl qr qo qw qk ql =
    record {
      gave = p_gave ++ q_gave;
      ring = grind (arith, common_steps);
      order = append_assoc xs ys (map unclaimed c.inbox)
          ∙ (ap (λ (l : List Stamped). xs ++ l) qo
          ∙ (sym (append_assoc xs (map unclaimed b.inbox) q_gave)
          ∙ (ap (λ (l : List Stamped). l ++ q_gave) po
          ∙ append_assoc (map unclaimed a.inbox) p_gave q_gave)));
      whole = whole_joined p_gave q_gave b.inbox c.inbox ys pw qw qo;
      knows = prefix_on _ _ _ pk qk;
      looks = omega arith;
    }

pub in_joined : (a b c : InEnd) (xs ys : List Stamped) → InAccount a b xs → InAccount b c ys → InAccount a c (xs ++ ys)
in_joined a b c xs ys p q = in_joined_at a b c xs ys p.gave q.gave p.ring p.order p.whole p.knows p.looks q.ring q.order q.whole q.knows q.looks

-- ---- of logs

made_on : (a b c : BoxState) (es fs : List Claimed) → AreMade a (entries_of es) b → AreMade b (entries_of fs) c → AreMade a (entries_of (es ++ fs)) c
made_on a b c [] fs p q = rw p q
made_on a b c (e ∷ es) fs p q = (p.0, made_on e.entry.after b c es fs p.1 q)

stamps_on : (a : ℕ) (es fs : List Claimed) → AreStamped a es → AreStamped (last_stamp a es) fs → AreStamped a (es ++ fs)
stamps_on a [] fs p q = q
stamps_on a (e ∷ es) fs p q = (p.0, stamps_on e.entry.stamp es fs p.1 q)

last_on : (a : ℕ) (es fs : List Claimed) → last_stamp a (es ++ fs) ≡ last_stamp (last_stamp a es) fs
last_on a [] fs = refl
last_on a (e ∷ es) fs = last_on e.entry.stamp es fs

all_on : {X : Type 0} (P : X → Type 0) (xs ys : List X) → AllByRecursion P xs → AllByRecursion P ys → AllByRecursion P (xs ++ ys)
all_on P [] ys p q = q
all_on P (x ∷ xs) ys p q = (p.0, all_on P xs ys p.1 q)

pub log_takes-append : (tunnels : Tunnels) (es fs : List Claimed) → log_takes tunnels (es ++ fs) ≡ log_takes tunnels es ++ log_takes tunnels fs
log_takes-append tunnels [] fs = refl
log_takes-append tunnels (e ∷ es) fs =
    rw (log_takes-append tunnels es fs) (sym (append_assoc (map (with_stamp e.claim) (event_takes tunnels e.entry.event e.entry.taken)) (log_takes tunnels es) (log_takes tunnels fs)))

pub log_sends-append : (tunnels : Tunnels) (es fs : List Claimed) → log_sends tunnels (entries_of (es ++ fs)) ≡ log_sends tunnels (entries_of es) ++ log_sends tunnels (entries_of fs)
log_sends-append tunnels [] fs = refl
log_sends-append tunnels (e ∷ es) fs =
    rw (log_sends-append tunnels es fs) (sym (append_assoc (event_sends tunnels e.entry.stamp e.entry.sent) (log_sends tunnels (entries_of es)) (log_sends tunnels (entries_of fs))))

pub events_that-append : (test : Event → Bool) (es fs : List Claimed) → events_that test (es ++ fs) ≡ events_that test es ++ events_that test fs
events_that-append test [] fs = refl
events_that-append test (e ∷ es) fs = rw (events_that-append test es fs) (sym (append_assoc (if test e.entry.event then e.entry.event ∷ [] else []) (events_that test es) (events_that test fs)))

pub count_sent-append : (es fs : List Claimed) → count_sent (es ++ fs) ≡ count_sent es + count_sent fs
count_sent-append [] fs = omega arith
count_sent-append (e ∷ es) fs = let rest = count_sent-append es fs in omega arith

-- ---- of workers

-- two accounts, one after the other, are one
pub joined : (a b c : Worker) (es fs : List Claimed) → IsWork a b es → IsWork b c fs → IsWork a c (es ++ fs)
joined a b c es fs p q =
    let places = p.place in
    let stamps = subst (λ (n : ℕ). AreStamped n fs) p.last q.stamps in
    let fits = subst (λ (l : List (ℕ × ℕ)). AllByRecursion (λ claimed. FitsPlace l claimed.entry.event claimed.entry.taken) fs) places q.fits in
    record {
      made = made_on a.part b.part c.part es fs p.made q.made;
      stamps = stamps_on a.stamp es fs p.stamps stamps;
      last = q.last ∙ (ap (λ (n : ℕ). last_stamp n fs) p.last ∙ sym (last_on a.stamp es fs));
      claims = all_on _ es fs p.claims q.claims;
      fits = all_on _ es fs p.fits fits;
      ins = λ e.
          rw (log_takes-append (tunnels_at a.place e) es fs)
          (in_joined (in_at a e) (in_at b e) (in_at c e) _ _ (p.ins e) (subst (λ (l : List (ℕ × ℕ)). InAccount (in_at b e) (in_at c e) (log_takes (tunnels_at l e) fs)) places (q.ins e)));
      outs = λ e.
          rw (log_sends-append (tunnels_at a.place e) es fs)
          (out_joined (out_at a e) (out_at b e) (out_at c e) _ _ (p.outs e) (subst (λ (l : List (ℕ × ℕ)). OutAccount (out_at b e) (out_at c e) (log_sends (tunnels_at l e) (entries_of fs))) places (q.outs e)));
      stimuli = grind (arith, common_steps, events_that-append is_command es fs);
      shifts = rw (events_that-append is_shift es fs, length-append) (omega (arith, p.shifts, q.shifts));
      logs = grind (arith, common_steps);
      place = q.place ∙ p.place;
      in_rings = q.in_rings ∙ p.in_rings;
      out_rings = q.out_rings ∙ p.out_rings;
    }

begins_on : (es fs : List Claimed) (a b : List Event) → events_that is_command es ++ b ≡ a → (a ≢ [] → BeginsByStimulus es) → (b ≢ [] → BeginsByStimulus fs) → a ≢ [] → BeginsByStimulus (es ++ fs)
begins_on [] fs a b e p q some = q (λ none. some (sym e ∙ none))
begins_on (e ∷ es) fs a b d p q some = p some

no_retry_on : (es fs : List Claimed) → events_that is_retry es ≡ [] → events_that is_retry fs ≡ [] → events_that is_retry (es ++ fs) ≡ []
no_retry_on es fs p q = rw (events_that-append is_retry es fs, p, q) refl

-- the numbers of two logs were added
pub added_joined : (s t u : Progress) (es fs : List Claimed) → AreAdded s t es → AreAdded t u fs → AreAdded s u (es ++ fs)
added_joined s t u es fs p q = record {
  turns = omega (arith, length-append es fs, p.turns, q.turns);
  sent = omega (arith, count_sent-append es fs, p.sent, q.sent);
  took = rw (events_that-append is_take es fs, length-append) (omega (arith, p.took, q.took));
}

pub turns_joined : (a b c : Worker) (s t u : Progress) → AreTurns a b s t → AreTurns b c t u → AreTurns a c s u
turns_joined a b c s t u p q = record {
  log = p.log ++ q.log;
  work = joined a b c p.log q.log p.work q.work;
  added = added_joined s t u p.log q.log p.added q.added;
  first = begins_on p.log q.log a.stimuli.items b.stimuli.items p.work.stimuli p.first q.first;
  no_retry = no_retry_on p.log q.log p.no_retry q.no_retry;
}

pub out_still : (a : OutEnd) → OutAccount a a []
out_still a = record { put = []; kept = []; ring = sym (append-nil _); outbox = sym (append-nil _); order = refl; back = refl; waits = λ h. (refl, refl); full = λ h k. absurd (k refl); places = omega arith }

pub in_still : (a : InEnd) → InAccount a a []
in_still a = record { gave = []; ring = sym (append-nil _); order = sym (append-nil _); whole = inl refl; knows = ([], append-nil _); looks = omega arith }

-- nothing was done
pub still : (a : Worker) → IsWork a a []
still a = record {
  made = refl;
  stamps = tt;
  last = refl;
  claims = tt;
  fits = tt;
  ins = λ e. in_still (in_at a e);
  outs = λ e. out_still (out_at a e);
  stimuli = refl;
  shifts = omega arith;
  logs = sym (append-nil _);
  place = refl;
  in_rings = refl;
  out_rings = refl;
}

pub none_added : (s : Progress) → AreAdded s s []
none_added s = record { turns = omega arith; sent = omega arith; took = omega arith }

pub no_turns : (a : Worker) (s : Progress) → AreTurns a a s s
no_turns a s = record { log = []; work = still a; added = none_added s; first = λ some. tt; no_retry = refl }

-- ---- the law

-- further stimuli before and after
more_stimuli : (a b : Worker) (before between : Queue Event) (added : List Event) (log : List Claimed) → before.items ≡ a.stimuli.items ++ added → between.items ≡ b.stimuli.items ++ added
    → IsWork a b log → IsWork (record a { stimuli = before }) (record b { stimuli = between }) log
more_stimuli a b before between added log p q work = record {
  made = work.made;
  stamps = work.stamps;
  last = work.last;
  claims = work.claims;
  fits = work.fits;
  ins = work.ins;
  outs = work.outs;
  stimuli = rw (q, p, ← append_assoc, work.stimuli) refl;
  shifts = work.shifts;
  logs = work.logs;
  place = work.place;
  in_rings = work.in_rings;
  out_rings = work.out_rings;
}

no_events : (log : List Claimed) → map event_of log ≡ [] → log ≡ []
no_events [] e = refl
no_events (claimed ∷ log) e = cc

pub join_accounts : JoinAccounts
join_accounts retries cut cut_2 a b c before between added log log_2 p q one two =
    let all_rest : log_2 ≡ two.rest = two.parts ∙ ap (λ (l : List Claimed). l ++ two.rest) (no_events two.first two.retried) in
    let none : events_that is_retry log_2 ≡ [] = ap (events_that is_retry) all_rest ∙ two.no_other in
    record {
      work = joined (record a { stimuli = before }) (record b { stimuli = between }) c log log_2 (more_stimuli a b before between added log p q one.work) two.work;
      first = one.first;
      rest = one.rest ++ log_2;
      parts = ap (λ (l : List Claimed). l ++ log_2) one.parts ∙ append_assoc one.first one.rest log_2;
      below = one.below;
      retried = one.retried;
      whole = one.whole;
      no_other = no_retry_on one.rest log_2 one.no_other none;
      few_shifts = two.few_shifts;
    }
