-- Logs, as they begin.
use Rattle.std.proofs.Common.{◌≡◌, ◌<◌, ◌≤◌, ◌+◌, ℕ, zero, suc, List, [], ◌∷◌, ◌++◌, drop, length, length-append, length-drop, get_or, map, take, take_all, refl, ap, ap₂, sym, ◌∙◌, arith}
use Rattle.std.proofs.lemmas.List.{map-append, take_more}
use Rattle.mc_merge.specs.Weaving.{log_at, logs_of}
use Rattle.mc_merge.specs.declared.log.Made.{Made}
use Rattle.mc_merge.specs.declared.log.PartLog.{PartLog}

-- what is read of each log is a table's first entries
pub table_more : {A : Type 0} (f : PartLog → A) (logs after : List PartLog) (log : PartLog) (table : List A) (d : A) → length logs < length table → f log ≡ get_or table (length logs) d
    → map f logs ≡ take (length logs) table → after ≡ logs ++ log ∷ [] → map f after ≡ take (length after) table
table_more f logs after log table d below one so_far added =
    let more : length after ≡ length logs + 1 = ap length added ∙ length-append logs (log ∷ []) in
    ap (map f) added
    ∙ (map-append f logs (log ∷ [])
    ∙ (ap₂ (λ (l : List _) (x : _). l ++ x ∷ []) so_far one
    ∙ (sym (take_more table (length logs) d below) ∙ ap (λ (n : ℕ). take n table) (sym more))))

-- no log has an entry
push_none : (xs : List (List Made)) (x : List Made) → ((k : ℕ) → get_or xs k [] ≡ []) → x ≡ [] → (k : ℕ) → get_or (xs ++ x ∷ []) k [] ≡ []
push_none [] x none is zero = is
push_none [] x none is (suc k) = refl
push_none (y ∷ xs) x none is zero = none 0
push_none (y ∷ xs) x none is (suc k) = push_none xs x (λ j. none (suc j)) is k

pub none_more : (logs after : List PartLog) (log : PartLog) → ((part : ℕ) → log_at (logs_of logs) part ≡ []) → log.made.items ≡ [] → after ≡ logs ++ log ∷ [] → (part : ℕ) → log_at (logs_of after) part ≡ []
none_more logs after log none is added part =
    ap (λ (l : List PartLog). get_or (logs_of l) part []) added
    ∙ (ap (λ (l : List (List Made)). get_or l part []) (map-append (λ (one : PartLog). one.made.items) logs (log ∷ []))
    ∙ push_none (logs_of logs) log.made.items none is part)

-- all have theirs
pub all_there : {A : Type 0} (shares rest : List A) (logs : List PartLog) → rest ≡ drop (length logs) shares → length rest ≡ 0 → length logs ≤ length shares → length shares ≤ length logs
all_there shares rest logs left none few =
    let gone = ap length (sym left) ∙ none in
    omega (arith, length-drop (length logs) shares, gone)

pub whole_table : {A : Type 0} (f : PartLog → A) (logs : List PartLog) (table : List A) → map f logs ≡ take (length logs) table → length table ≤ length logs → map f logs ≡ table
whole_table f logs table is all = is ∙ take_all (length logs) table all
