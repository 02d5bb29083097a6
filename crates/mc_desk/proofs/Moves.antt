-- Each move of a pass keeps the rule.
use Rattle.std.proofs.Common.{◌≡◌, ◌≢◌, ℕ, zero, suc, ◌+◌, ◌<◌, ◌≤◌, ◌⊎◌, inl, inr, Bool, true, false, true≢false, cond, eqb, eq-eqb, ne_eqb, List, [], ◌∷◌, ◌++◌, length, get_or, set, sym, refl, ap, ◌∙◌, subst, ⊎_elim, append_assoc, append-nil, lt_of_not-le, arith}
use mathlib.Core.Option as own
use mathlib.Core.Option.{none, some, some-injective, some-ne-none}
use mathlib.Core.Logic.{dite}
use native.Mathlib.Decide.{dec_le, ℕ_discrete}
use lib.ListN.{get_elem?}
use Rattle.std.proofs.lemmas.List.{get_or_past}
use Rattle.crossbeam_queue.specs.Fifo.{Pushes, Pops, Forks, Merges, Learns}
use Rattle.crossbeam_queue.proofs.Lists.{at_set}
use Rattle.mc_desk.specs.declared.log.Log.{Log}
use Rattle.mc_desk.specs.declared.request.Request.{Request}
use Rattle.mc_desk.specs.Histories.{requests_of, IsHistory, new_taker, new_operator, nobody, with_accepted, with_taken, with_made, with_known, Asking, Taking, Past, FitsOperator, FitsTaker, Fits, IsRecorded, IsNext, HasTaken, AreIndexed, WasSeen, IsLeft}
use Rattle.mc_desk.proofs.Requests.{requests_append, requests_own, requests_else, all_own, requests_among, some_among}
use Rattle.mc_desk.proofs.Indices.{length_more, indexed_more, indexed_at}

-- ---- lists of logs, and functions of numbers

-- at a list with one log more: one of those before, or the last
at_more : (l : List Log) (a b : Log) (j : ℕ) → get_elem? (l ++ a ∷ []) j ≡ some b → (get_elem? l j ≡ some b) ⊎ ((j ≡ length l) × (a ≡ b))
at_more [] a b zero e = inr (refl, some-injective a b e)
at_more [] a b (suc j) e = absurd (some-ne-none b (sym e))
at_more (x ∷ xs) a b zero e = inl e
at_more (x ∷ xs) a b (suc j) e = ⊎_elim (λ (t : get_elem? xs j ≡ some b). inl t) (λ (t : (j ≡ length xs) × (a ≡ b)). inr (ap suc t.0, t.1)) (at_more xs a b j e)

abbrev All : (ℕ → Log → Type 0) → List Log → Type 0
All F logs = (pass : ℕ) (log : Log) → get_elem? logs pass ≡ some log → F pass log

all_set : (F : ℕ → Log → Type 0) (logs : List Log) (pass : ℕ) (w : Log) → F pass w → ((j : ℕ) (u : Log) → j ≢ pass → get_elem? logs j ≡ some u → F j u) → All F (set logs pass w)
all_set F logs pass w mine others j u e =
    ⊎_elim (λ (t : (j ≡ pass) × (w ≡ u)). subst (λ (y : ℕ × Log). F y.0 y.1) (λ i. (sym t.0 i, t.1 i)) mine) (λ (t : (j ≢ pass) × (get_elem? logs j ≡ some u)). others j u t.0 t.1)
    (at_set logs pass j w u e)

all_more : (F : ℕ → Log → Type 0) (logs : List Log) (w : Log) → F (length logs) w → All F logs → All F (logs ++ w ∷ [])
all_more F logs w last before j u e =
    ⊎_elim (λ (t : get_elem? logs j ≡ some u). before j u t) (λ (t : (j ≡ length logs) × (w ≡ u)). subst (λ (y : ℕ × Log). F y.0 y.1) (λ i. (sym t.0 i, t.1 i)) last)
    (at_more logs w u j e)

-- the same function but at one number
abbrev updated : {A : Type 0} → (ℕ → A) → ℕ → A → ℕ → A
updated f n y k = cond (eqb k n) y (f k)

updated_here : {A : Type 0} (f : ℕ → A) (n : ℕ) (y : A) (k : ℕ) → k ≡ n → updated f n y k ≡ y
updated_here f n y k is = ap (λ (b : Bool). cond b y (f k)) (eq-eqb k n is)

updated_else : {A : Type 0} (f : ℕ → A) (n : ℕ) (y : A) (k : ℕ) → k ≢ n → updated f n y k ≡ f k
updated_else f n y k ne = ap (λ (b : Bool). cond b y (f k)) (ne_eqb k n ne)

at_last : (l : List (List Request)) (a : List Request) (k : ℕ) → k ≡ length l → get_or (l ++ a ∷ []) k [] ≡ a
at_last [] a zero e = refl
at_last [] a (suc k) e = absurd (omega arith)
at_last (x ∷ xs) a zero e = absurd (omega arith)
at_last (x ∷ xs) a (suc k) e = at_last xs a k (omega arith)

at_front : (l : List (List Request)) (a : List Request) (k : ℕ) → k < length l → get_or (l ++ a ∷ []) k [] ≡ get_or l k []
at_front [] a k low = absurd (omega arith)
at_front (x ∷ xs) a zero low = refl
at_front (x ∷ xs) a (suc k) low = at_front xs a k (omega arith)

-- ---- the rule

-- before anything was asked
abbrev new_past : Past
new_past = record { seat = λ _. none; accepted = λ _. []; taker = 0; taken = []; made = 0; complete = false }

pub begins : IsRecorded [] (new_taker ∷ [])
begins = record {
  past = new_past;
  history = λ _. refl;
  indexed = λ _. refl;
  unmade = λ k _. (refl, refl);
  fits = all_more (Fits new_past) [] new_taker (record {
    as_operator = λ asks. absurd (true≢false (sym asks));
    as_taker = λ _. record { only = refl; taken_is = refl; made_is = refl; complete_is = refl; known_is = λ k low. absurd (omega arith); back = omega arith };
  }) (λ j u e. absurd (some-ne-none u (sym e)));
}

history_more : (k : ℕ) (v : Log) (x : Request) (taken items : List Request) (accepted : ℕ → List Request) → IsHistory taken items accepted → v.accepted ≡ accepted v.number → x.operator ≡ v.number
    → requests_of k (taken ++ (items ++ x ∷ [])) ≡ updated accepted v.number (v.accepted ++ x ∷ []) k
history_more k v x taken items accepted history own mine =
    ap (λ (l : List Request). requests_of k l) (sym (append_assoc taken items (x ∷ []))) ∙ (requests_append k (taken ++ items) (x ∷ []) ∙ dite (ℕ_discrete k v.number)
    (λ (is : k ≡ v.number).
    (λ i. (history k ∙ (ap accepted is ∙ sym own)) i ++ requests_own k x (mine ∙ sym is) i) ∙ sym (updated_here accepted v.number (v.accepted ++ x ∷ []) k is))
    (λ (ne : k ≢ v.number).
    (λ i. history k i ++ requests_else k x (λ same. ne (sym same ∙ mine)) i) ∙ (append-nil (accepted k) ∙ sym (updated_else accepted v.number (v.accepted ++ x ∷ []) k ne))))

indexed_updated : (k n : ℕ) (l : List Request) (x : Request) (accepted : ℕ → List Request) → ((j : ℕ) → AreIndexed (accepted j)) → l ≡ accepted n → x.index ≡ length l → AreIndexed (updated accepted n (l ++ x ∷ []) k)
indexed_updated k n l x accepted indexed own is = dite (ℕ_discrete k n)
    (λ (here : k ≡ n). subst (λ (r : List Request). AreIndexed r) (sym (updated_here accepted n (l ++ x ∷ []) k here)) (indexed_more l x (subst (λ (r : List Request). AreIndexed r) (sym own) (indexed n)) is))
    (λ (ne : k ≢ n). subst (λ (r : List Request). AreIndexed r) (sym (updated_else accepted n (l ++ x ∷ []) k ne)) (indexed k))

-- an operator's request is accepted
pub asks : (n pass : ℕ) (v : Log) (x : Request) → Asking v → x.operator ≡ v.number → x.index ≡ length v.accepted → Pushes IsRecorded n pass v x (λ w. w ≡ with_accepted v x)
asks n pass v x kind mine next items logs room h at =
    let w : Log = with_accepted v x in
    let past : Past = h.past in
    let fit : FitsOperator past pass v = (h.fits pass v at).as_operator kind.asks in
    let more : List Request = v.accepted ++ x ∷ [] in
    let now : Past = record past { accepted = updated past.accepted v.number more } in
    let apart : (k : ℕ) → past.seat k ≡ none → k ≢ v.number = λ k empty same. some-ne-none pass (sym fit.seat_is ∙ (ap past.seat (sym same) ∙ empty)) in (
      w,
      record {
        past = now;
        history = λ k. history_more k v x past.taken items past.accepted h.history fit.accepted_is mine;
        indexed = λ k. indexed_updated k v.number v.accepted x past.accepted h.indexed fit.accepted_is next;
        unmade = λ k high. ((h.unmade k high).0, updated_else past.accepted v.number more k (apart k (h.unmade k high).0) ∙ (h.unmade k high).1);
        fits = all_set (Fits now) logs pass w
            (record {
              as_operator = λ _. record { seat_is = fit.seat_is; accepted_is = sym (updated_here past.accepted v.number more v.number refl); last_is = fit.last_is };
              as_taker = λ takes. absurd (true≢false (sym takes ∙ kind.takes));
            })
            (λ j u ne e. record {
              as_operator = λ asking. (let f : FitsOperator past j u = (h.fits j u e).as_operator asking in record {
                seat_is = f.seat_is;
                accepted_is = f.accepted_is ∙ sym (updated_else past.accepted v.number more u.number (λ same. ne (some-injective j pass (sym f.seat_is ∙ (ap past.seat same ∙ fit.seat_is)))));
                last_is = f.last_is;
              });
              as_taker = λ takes. (let f : FitsTaker past j u = (h.fits j u e).as_taker takes in record {
                only = f.only;
                taken_is = f.taken_is;
                made_is = f.made_is;
                complete_is = f.complete_is;
                known_is = λ k low. ((f.known_is k low).0, (f.known_is k low).1 ∙ sym (updated_else past.accepted v.number more k (apart k (f.known_is k low).0)));
                back = f.back;
              });
            });
      },
      refl,
    )

-- the request that comes is of an operator, and the first one of it that wasn't taken
comes_next : (v : Log) (x : Request) (items : List Request) (logs : List Log) (h : IsRecorded (x ∷ items) logs) → v.taken ≡ h.past.taken → v.made ≡ h.past.made → IsNext v x
comes_next v x items logs h taken made =
    let past : Past = h.past in record {
      operator = lt_of_not-le (λ (high : v.made ≤ x.operator). some_among past.taken x items (h.history x.operator ∙ (h.unmade x.operator (subst (λ (n : ℕ). n ≤ x.operator) made high)).1));
      index = indexed_at (requests_of x.operator past.taken) x (requests_of x.operator items)
          (subst (λ (l : List Request). AreIndexed l) (sym (h.history x.operator) ∙ requests_among past.taken x items) (h.indexed x.operator))
          ∙ ap (λ (l : List Request). length (requests_of x.operator l)) (sym taken);
    }

-- the box takes a request
pub takes : (pass : ℕ) (v : Log) → Taking v → Pops IsRecorded pass v (HasTaken v)
takes pass v kind x items logs h at =
    let w : Log = with_taken v x in
    let past : Past = h.past in
    let fit : FitsTaker past pass v = (h.fits pass v at).as_taker kind.takes in
    let now : Past = record past { taken = past.taken ++ x ∷ [] } in (
      w,
      record {
        past = now;
        history = λ k. ap (λ (l : List Request). requests_of k l) (append_assoc past.taken (x ∷ []) items) ∙ h.history k;
        indexed = h.indexed;
        unmade = h.unmade;
        fits = all_set (Fits now) logs pass w
            (record {
              as_operator = λ asking. absurd (true≢false (sym asking ∙ kind.asks));
              as_taker = λ _. record {
                only = fit.only;
                taken_is = ap (λ (l : List Request). l ++ x ∷ []) fit.taken_is;
                made_is = fit.made_is;
                complete_is = fit.complete_is;
                known_is = fit.known_is;
                back = fit.back;
              };
            })
            (λ j u ne e. record {
              as_operator = λ asking. (let f : FitsOperator past j u = (h.fits j u e).as_operator asking in record { seat_is = f.seat_is; accepted_is = f.accepted_is; last_is = f.last_is });
              as_taker = λ taking. absurd (ne (((h.fits j u e).as_taker taking).only ∙ sym fit.only));
            });
      },
      record { log = refl; next = comes_next v x items logs h fit.taken_is fit.made_is },
    )

-- of a desk whose only operator this is, all that was accepted is its own
alone : (pass : ℕ) (v : Log) (items : List Request) (logs : List Log) (h : IsRecorded items logs) → FitsOperator h.past pass v → v.last ≡ true → v.number ≡ 0 → h.past.taken ++ items ≡ v.accepted
alone pass v items logs h fit last first =
    let past : Past = h.past in
    let made : past.made ≡ v.number + 1 = (fit.last_is last).1 in
    sym (all_own v.number (past.taken ++ items) (λ k ne. h.history k ∙ (h.unmade k (omega arith)).1)) ∙ (h.history v.number ∙ sym fit.accepted_is)

-- what a pass learns at one moment
pub sees : (pass : ℕ) (v : Log) → Learns IsRecorded pass v (WasSeen v)
sees pass v items logs h at = record {
  taken = h.past.taken;
  accepted = h.past.accepted;
  history = h.history;
  by_operator = λ asking. sym ((h.fits pass v at).as_operator asking).accepted_is;
  by_only_operator = λ asking last first. alone pass v items logs h ((h.fits pass v at).as_operator asking) last first;
  by_taker = λ taking. sym ((h.fits pass v at).as_taker taking).taken_is;
}

-- the pass of the next operator is made of the taker's, and may be the last one
pub makes : (last : Bool) (pass : ℕ) (v : Log) → Taking v → v.complete ≡ false → Forks IsRecorded pass v (with_made v last) (new_operator v.made last)
makes last pass v kind open_still items logs h at =
    let l : Log = with_made v last in
    let r : Log = new_operator v.made last in
    let past : Past = h.past in
    let fit : FitsTaker past pass v = (h.fits pass v at).as_taker kind.takes in
    let made : v.made ≡ past.made = fit.made_is in
    let unmade : (k : ℕ) → v.made ≤ k → (past.seat k ≡ none) × (past.accepted k ≡ []) = λ k high. h.unmade k (omega arith) in
    let kept : List Log = set logs pass l in
    let seat : ℕ → own.Option ℕ = updated past.seat v.made (some (length kept)) in
    let now : Past = record past { seat = seat; made = v.made + 1; complete = last } in
    record {
      past = now;
      history = h.history;
      indexed = h.indexed;
      unmade = λ k high. (updated_else past.seat v.made (some (length kept)) k (λ same. absurd (omega arith)) ∙ (unmade k (omega arith)).0, (unmade k (omega arith)).1);
      fits = all_more (Fits now) kept r
          (record {
            as_operator = λ _. record { seat_is = updated_here past.seat v.made (some (length kept)) v.made refl; accepted_is = sym (unmade v.made (omega arith)).1; last_is = λ is. (is, refl) };
            as_taker = λ taking. absurd (true≢false (sym taking));
          })
          (all_set (Fits now) logs pass l
          (record {
            as_operator = λ asking. absurd (true≢false (sym asking ∙ kind.asks));
            as_taker = λ _. record {
              only = fit.only;
              taken_is = fit.taken_is;
              made_is = refl;
              complete_is = refl;
              known_is = λ k low. (updated_else past.seat v.made (some (length kept)) k (λ same. (let b = fit.back in absurd (omega arith))) ∙ (fit.known_is k low).0, (fit.known_is k low).1);
              back = (let b = fit.back in omega arith);
            };
          })
          (λ j u ne e. record {
            as_operator = λ asking. (let f : FitsOperator past j u = (h.fits j u e).as_operator asking in record {
              seat_is = updated_else past.seat v.made (some (length kept)) u.number (λ same. some-ne-none j (sym f.seat_is ∙ (ap past.seat same ∙ (unmade v.made (omega arith)).0))) ∙ f.seat_is;
              accepted_is = f.accepted_is;
              last_is = λ is. absurd (true≢false (sym (f.last_is is).0 ∙ (sym fit.complete_is ∙ open_still)));
            });
            as_taker = λ taking. absurd (ne (((h.fits j u e).as_taker taking).only ∙ sym fit.only));
          }));
    }

-- the pass of an operator that has ended is back
pub ends : (pass : ℕ) (v : Log) (other : ℕ) (w : Log) → Taking v → Asking w → w.number ≡ length v.known → Merges IsRecorded pass v other w (with_known v w) nobody
ends pass v other w kind kind' number items logs h at apart at' =
    let both : Log = with_known v w in
    let past : Past = h.past in
    let fit : FitsTaker past pass v = (h.fits pass v at).as_taker kind.takes in
    let made : v.made ≡ past.made = fit.made_is in
    let kept : List Log = set logs pass both in
    let was : get_elem? logs other ≡ some w = ⊎_elim (λ (t : (other ≡ pass) × (both ≡ w)). absurd (apart t.0)) (λ (t : (other ≢ pass) × (get_elem? logs other ≡ some w)). t.1) (at_set logs pass other both w at') in
    let ended : FitsOperator past other w = (h.fits other w was).as_operator kind'.asks in
    let low : length v.known < v.made = lt_of_not-le (λ (high : v.made ≤ length v.known). some-ne-none other (sym ended.seat_is ∙ (ap past.seat number ∙ (h.unmade (length v.known) (omega arith)).0))) in
    let seat : ℕ → own.Option ℕ = updated past.seat w.number none in
    let now : Past = record past { seat = seat } in
    let still : (k : ℕ) → past.seat k ≡ none → seat k ≡ none = λ k empty. dite (ℕ_discrete k w.number) (λ (is : k ≡ w.number). updated_here past.seat w.number none k is) (λ (ne : k ≢ w.number). updated_else past.seat w.number none k ne ∙ empty) in
    let known : (k : ℕ) → k < length (v.known ++ w.accepted ∷ []) → (seat k ≡ none) × (get_or (v.known ++ w.accepted ∷ []) k [] ≡ past.accepted k) = λ k within. dite (dec_le (length v.known) k)
    (λ (high : length v.known ≤ k). let last : k ≡ length v.known = (let n = length_more v.known w.accepted in omega arith) in
    (updated_here past.seat w.number none k (last ∙ sym number), at_last v.known w.accepted k last ∙ (ended.accepted_is ∙ ap past.accepted (number ∙ sym last))))
    (λ (front : ¬ (length v.known ≤ k)). let first : k < length v.known = lt_of_not-le front in
    (still k (fit.known_is k first).0, at_front v.known w.accepted k first ∙ (fit.known_is k first).1)) in
    let Away : ℕ → Log → Type 0 = λ j u. j ≢ other → Fits now j u in
    let away : All Away kept = all_set Away logs pass both
    (λ _. record {
      as_operator = λ asking. absurd (true≢false (sym asking ∙ kind.asks));
      as_taker = λ _. record {
        only = fit.only;
        taken_is = fit.taken_is;
        made_is = fit.made_is;
        complete_is = fit.complete_is;
        known_is = known;
        back = (let n = length_more v.known w.accepted in omega arith);
      };
    })
    (λ j u ne e far. record {
      as_operator = λ asking. (let f : FitsOperator past j u = (h.fits j u e).as_operator asking in record {
        seat_is = updated_else past.seat w.number none u.number (λ same. far (some-injective j other (sym f.seat_is ∙ (ap past.seat same ∙ ended.seat_is)))) ∙ f.seat_is;
        accepted_is = f.accepted_is;
        last_is = f.last_is;
      });
      as_taker = λ taking. absurd (ne (((h.fits j u e).as_taker taking).only ∙ sym fit.only));
    }) in
    record {
      past = now;
      history = h.history;
      indexed = h.indexed;
      unmade = λ k high. (still k (h.unmade k high).0, (h.unmade k high).1);
      fits = all_set (Fits now) kept other nobody (record { as_operator = λ asking. absurd (true≢false (sym asking)); as_taker = λ taking. absurd (true≢false (sym taking)) }) (λ j u far e. away j u e far);
    }

-- once all passes are back, what was taken and what lies on the desk is all that was accepted
pub leaves : (pass : ℕ) (v : Log) → Taking v → length v.known ≡ v.made → Learns IsRecorded pass v (IsLeft v)
leaves pass v kind back items logs h at =
    let fit : FitsTaker h.past pass v = (h.fits pass v at).as_taker kind.takes in
    let made : v.made ≡ h.past.made = fit.made_is in
    λ k. ap (λ (l : List Request). requests_of k (l ++ items)) fit.taken_is ∙ (h.history k ∙ dite (dec_le (length v.known) k)
    (λ (high : length v.known ≤ k). (h.unmade k (omega arith)).1 ∙ sym (get_or_past v.known k [] high))
    (λ (front : ¬ (length v.known ≤ k)). sym (fit.known_is k (lt_of_not-le front)).1))
