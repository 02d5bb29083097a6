-- What is left on a desk whose operators have ended.
use Rattle.std.proofs.Common.{◌≡◌, ◌+◌, List, [], ◌∷◌, ◌++◌, length, length-append, append_assoc, append-nil, sym, ap, ◌∙◌, subst, arith}
use Rattle.std.proofs.lemmas.List.{nil_from_length}
use Rattle.mc_desk.specs.declared.log.Log.{Log}
use Rattle.mc_desk.specs.declared.request.Request.{Request}
use Rattle.mc_desk.specs.Histories.{requests_of, HasTaken, IsLeft, Taking, with_taken}
use Rattle.mc_desk.proofs.Requests.{same_count}

-- these were taken after the others
abbrev pub with_more_taken : Log → List Request → Log
with_more_taken log more = record log { taken = log.taken ++ more }

-- two moments of a desk that nobody puts requests onto: what was taken in between is gone
pub as_many : (log : Log) (before more after : List Request) → IsLeft log before → IsLeft (with_more_taken log more) after → length before ≡ length more + length after
as_many log before more after first second =
    let n = same_count (log.taken ++ before) (log.taken ++ more ++ after) (λ k. first k ∙ sym (second k)) in
    let a = length-append log.taken before in
    let b = length-append (log.taken ++ more) after in
    let c = length-append log.taken more in
    omega arith

-- where as many were taken as there were, these are all
pub all_left : (log : Log) (before more after : List Request) → IsLeft log before → IsLeft (with_more_taken log more) after → length more ≡ length before → IsLeft log more
all_left log before more after first second count =
    let none : after ≡ [] = nil_from_length after (let n = as_many log before more after first second in omega arith) in
    λ k. sym (ap (λ (l : List Request). requests_of k l) (ap (λ (l : List Request). log.taken ++ more ++ l) none ∙ append-nil (log.taken ++ more))) ∙ second k

pub none_taken : (log new : Log) (more : List Request) → more ≡ [] → new ≡ log → new ≡ with_more_taken log more
none_taken log new more none same = same ∙ ap (λ (l : List Request). record log { taken = l }) (sym (ap (λ (l : List Request). log.taken ++ l) none ∙ append-nil log.taken))

-- one request more
pub one_taken : (log old new : Log) (more longer : List Request) (x : Request) → old ≡ with_more_taken log more → HasTaken old x new → longer ≡ more ++ x ∷ [] → new ≡ with_more_taken log longer
one_taken log old new more longer x is taken grown =
    taken.log ∙ (ap (λ (l : Log). with_taken l x) is ∙ ap (λ (l : List Request). record log { taken = l }) (append_assoc log.taken more (x ∷ []) ∙ sym (ap (λ (l : List Request). log.taken ++ l) grown)))

pub taking_more : (log now : Log) (more : List Request) → now ≡ with_more_taken log more → Taking log → Taking now
taking_more log now more is kind = record { takes = ap (λ (l : Log). l.takes) is ∙ kind.takes; asks = ap (λ (l : Log). l.asks) is ∙ kind.asks }

pub back_more : (log now : Log) (more : List Request) → now ≡ with_more_taken log more → length log.known ≡ log.made → length now.known ≡ now.made
back_more log now more is back = ap (λ (l : Log). length l.known) is ∙ (back ∙ sym (ap (λ (l : Log). l.made) is))

pub left_more : (log now : Log) (more items : List Request) → now ≡ with_more_taken log more → IsLeft now items → IsLeft (with_more_taken log more) items
left_more log now more items is left = subst (λ (l : Log). IsLeft l items) is left
