-- What the parser answers for the words.
use Rattle.std.proofs.Common.{◌≡◌, ◌∙◌, inl, inr, ℕ, Bool, Bor, true, refl, sym, ap, ap₂, subst, List, [], None, Some, IfNone, codes, map, nat_lt, string_bytes}
use Rattle.std.specs.Prelude.{IfSome, String, option_map}
use Rattle.std.proofs.lemmas.Option.{same_Some}
use Rattle.std.specs.Option.{unwrap_or}
use Rattle.std.specs.declared.alloc.Global.{Global}
use Rattle.std.specs.declared.option.Option.{Option}
use Rattle.clap.specs.Words.{App, HasKind, HasMatchesOf, IsAmong, Row, Text, all_of, count_of, fault_of, found_of, is_simple, is_simple_and_free, kind_of, matched_of, matches_of, raw_values, rows_of}
use Rattle.clap.proofs.WalkLemmas.{raw_values-rows}
use Rattle.clap.specs.declared.parser.matches.Found.{Found}
use Rattle.clap.specs.declared.error.Error.{Error}
use Rattle.clap.specs.declared.error.kind.ErrorKind.TheVariants.{OutOfMemory}
use Rattle.clap.specs.declared.parser.matches.ArgMatches.{ArgMatches}
use Rattle.mc_ladder_choice.specs.declared.choice.Span.{Span}
use Rattle.mc_ladder_top.specs.declared.picture.Picture.{Picture}
use Rattle.mc_ladder_top.specs.Words.{AreTaken, AskFor, AskForAny, asks_up_to_fault, ladder_command, picture_of, request_by, settles_of}
use Rattle.mc_ladder_top.specs.Requests.{Requested, asked}
use Rattle.mc_ladder_top.specs.declared.words.LadderRequest.{LadderRequest}

-- its matches and its faults are known exactly
is_free : is_simple_and_free ladder_command ≡ true
is_free = refl

-- where it takes the words, it finds the flag as often as it stands there
pub taken : (app : App) (words : List Text) (m : ArgMatches) → app ≡ ladder_command → (is_simple_and_free app ≡ true → fault_of app words ≡ []) → HasMatchesOf app words m
    → (fault_of ladder_command words ≡ []) × (rows_of (found_of m) ≡ matches_of ladder_command words)
taken app words m is passes matches =
    let free : is_simple_and_free app ≡ true = ap is_simple_and_free is ∙ is_free in
    let simple : is_simple app ≡ true = ap is_simple is in (
      sym (ap (λ (a : App). fault_of a words) is) ∙ passes free,
      (matches simple).0 ∙ ap (λ (a : App). matches_of a words) is,
    )

-- what the rows of a parse ask for
abbrev rows_ask : List Row → Option Requested
rows_ask rows =
    request_by (picture_of (nat_lt 0 (count_of (codes "ascii") rows)) (nat_lt 0 (count_of (codes "svg") rows)) (nat_lt 0 (count_of (codes "html") rows))) (settles_of (unwrap_or (all_of (codes "settles") rows) [])) (unwrap_or (all_of (codes "box") rows) []) (nat_lt 0 (count_of (codes "up-to-fault") rows))

by_values : (rows : List Row) (ascii svg html up_to_fault : ℕ) (settles boxes : List Text) → ascii ≡ count_of (codes "ascii") rows → svg ≡ count_of (codes "svg") rows
    → html ≡ count_of (codes "html") rows → up_to_fault ≡ count_of (codes "up-to-fault") rows → settles ≡ unwrap_or (all_of (codes "settles") rows) [] → boxes ≡ unwrap_or (all_of (codes "box") rows) []
    → request_by (picture_of (nat_lt 0 ascii) (nat_lt 0 svg) (nat_lt 0 html)) (settles_of settles) boxes (nat_lt 0 up_to_fault) ≡ rows_ask rows
by_values rows ascii svg html up_to_fault settles boxes a s h u t b = rw (a, s, h, u, t, b) refl

-- so they ask for this, if for anything
pub asks_for_it : (words : List (String Global)) (m : ArgMatches) (ascii svg html up_to_fault : ℕ) (settles boxes : List Text) (request : Option Requested)
    → (fault_of ladder_command (map string_bytes words) ≡ []) × (rows_of (found_of m) ≡ matches_of ladder_command (map string_bytes words))
    → ascii ≡ count_of (codes "ascii") (rows_of (found_of m)) → svg ≡ count_of (codes "svg") (rows_of (found_of m))
    → html ≡ count_of (codes "html") (rows_of (found_of m)) → up_to_fault ≡ count_of (codes "up-to-fault") (rows_of (found_of m)) → settles ≡ unwrap_or (all_of (codes "settles") (rows_of (found_of m))) [] → boxes ≡ unwrap_or (all_of (codes "box") (rows_of (found_of m))) []
    → request ≡ request_by (picture_of (nat_lt 0 ascii) (nat_lt 0 svg) (nat_lt 0 html)) (settles_of settles) boxes (nat_lt 0 up_to_fault)
    → AskForAny (map string_bytes words) request
asks_for_it words m ascii svg html up_to_fault settles boxes request (takes, rows) ascii_is svg_is html_is up_to_is settles_are boxes_are is = (
  takes,
  sym (is ∙ (by_values (rows_of (found_of m)) ascii svg html up_to_fault settles boxes ascii_is svg_is html_is up_to_is settles_are boxes_are ∙ ap rows_ask rows)),
)

pub by_parts : (picture shown : Option Picture) (settles named : Option (Option Span)) (boxes : List Text) (up_to_fault : Bool) → picture ≡ shown → settles ≡ named
    → request_by picture settles boxes up_to_fault ≡ request_by shown named boxes up_to_fault
by_parts picture shown settles named boxes up_to_fault p s = ap₂ (λ (a : Option Picture) (b : Option (Option Span)). request_by a b boxes up_to_fault) p s

pub asked_some : (words : List (String Global)) (read : Option LadderRequest) (request : Option Requested) → option_map (λ r. asked r) read ≡ request → AskForAny (map string_bytes words) request
    → IfSome read (λ r. AskFor words (asked r))
asked_some words None request is asks = tt
asked_some words (Some r) request is asks = subst (AskForAny (map string_bytes words)) (sym is) asks

-- where they ask for something, they are taken
pub asked_taken : (words read_words : List (String Global)) (read : Option LadderRequest) (request : LadderRequest) → read_words ≡ words → read ≡ Some request → IfSome read (λ r. AskFor read_words (asked r))
    → AreTaken words
asked_taken words read_words read request same is asks =
    (asked request, subst (λ (w : List (String Global)). AskFor w (asked request)) same (subst (λ (o : Option LadderRequest). IfSome o (λ r. AskFor read_words (asked r))) is asks))

-- where nothing was read of them, they aren't
pub not_taken : (words read_words : List (String Global)) (read : Option LadderRequest) → read_words ≡ words → read ≡ None → IfNone read (AreTaken read_words → ⊥)
    → AreTaken words → ⊥
not_taken words read_words read same is none =
    subst (λ (w : List (String Global)). AreTaken w → ⊥) same (subst (λ (o : Option LadderRequest). IfNone o (AreTaken read_words → ⊥)) is none)

-- where they ask for nothing, they aren't taken
pub asked_none : (words : List (String Global)) (read : Option LadderRequest) (request : Option Requested) → option_map (λ r. asked r) read ≡ request → AskForAny (map string_bytes words) request
    → IfNone read (AreTaken words → ⊥)
asked_none words None request is asks = λ taken. let no : None ≡ Some taken.0 = is ∙ (sym asks.1 ∙ taken.1.1) in cc
asked_none words (Some r) request is asks = tt

-- the values of an option that was met
pub values_met : (found : Found) (id : Text) (met : Option (Bor (List (Bor Text)))) (values : Bor (List (Bor Text)))
    → option_map (λ v. map (λ value. value.now) v.now) met ≡ option_map raw_values (matched_of found id) → met ≡ Some values
    → map (λ value. value.now) values.now ≡ unwrap_or (all_of id (rows_of found)) []
values_met found id met values are is =
    ap (λ (o : Option (List Text)). unwrap_or o []) (sym (ap (option_map (λ v. map (λ value. value.now) v.now)) is) ∙ (are ∙ raw_values-rows found id))

-- and of one that wasn't
pub values_not_met : (found : Found) (id : Text) (met : Option (Bor (List (Bor Text))))
    → option_map (λ v. map (λ value. value.now) v.now) met ≡ option_map raw_values (matched_of found id) → met ≡ None
    → [] ≡ unwrap_or (all_of id (rows_of found)) []
values_not_met found id met are is =
    ap (λ (o : Option (List Text)). unwrap_or o []) (sym (ap (option_map (λ v. map (λ value. value.now) v.now)) is) ∙ (are ∙ raw_values-rows found id))

-- where it gives an error that isn't want of memory, they aren't taken
pub refused : (app : App) (words : List (String Global)) (e : Error) → app ≡ ladder_command → (is_simple_and_free app ≡ true → HasKind (fault_of app (map string_bytes words)) e)
    → (kind_of e ≡ OutOfMemory → ⊥) → AreTaken words → ⊥
refused app words e is kinds not_memory none =
    let free : is_simple_and_free app ≡ true = ap is_simple_and_free is ∙ is_free in
    let among : IsAmong (kind_of e) (fault_of app (map string_bytes words)) = elim (kinds free) [ inl memory ↦ absurd (not_memory memory) | inr k ↦ k ] in
    let there : fault_of app (map string_bytes words) ≡ [] = ap (λ (a : App). fault_of a (map string_bytes words)) is ∙ none.1.0 in
    subst (IsAmong (kind_of e)) there among

-- ---- the flag for a faulty journal

asks_so : (picture : Option Picture) (settles : Option (Option Span)) (boxes : List Text) (up_to_fault : Bool) (request : Requested) → request_by picture settles boxes up_to_fault ≡ Some request → request.up_to_fault ≡ up_to_fault
asks_so None settles boxes up_to_fault request is = absurd (cc)
asks_so (Some picture) None boxes up_to_fault request is = absurd (cc)
asks_so (Some picture) (Some settles) boxes up_to_fault request is =
    sym (ap (λ (o : Option Requested). unwrap_or (option_map (λ r. r.up_to_fault) o) up_to_fault) is)

-- the words ask for a ladder up to a fault where the request does
pub asks_for_flag : (words : List (String Global)) (request : Requested) → AskFor words request → request.up_to_fault ≡ asks_up_to_fault (map string_bytes words)
asks_for_flag words request asks = asks_so _ _ _ _ request asks.1

pub flag_of_read : (words read_words : List (String Global)) (read : Option LadderRequest) (request : LadderRequest) → read_words ≡ words → read ≡ Some request → IfSome read (λ r. AskFor read_words (asked r))
    → request.up_to_fault ≡ asks_up_to_fault (map string_bytes words)
flag_of_read words read_words read request same is asks =
    asks_for_flag words (asked request) (subst (λ (w : List (String Global)). AskFor w (asked request)) same (subst (λ (o : Option LadderRequest). IfSome o (λ r. AskFor read_words (asked r))) is asks))

-- and they ask for this request alone
pub asked_same : (words read_words : List (String Global)) (read : Option LadderRequest) (request : LadderRequest) (wanted : Requested) → read_words ≡ words → read ≡ Some request → IfSome read (λ r. AskFor read_words (asked r)) → AskFor words wanted
    → asked request ≡ wanted
asked_same words read_words read request wanted same is asks wants =
    let mine : AskFor words (asked request) = subst (λ (w : List (String Global)). AskFor w (asked request)) same (subst (λ (o : Option LadderRequest). IfSome o (λ r. AskFor read_words (asked r))) is asks) in
    same_Some (asked request) wanted (sym mine.1 ∙ wants.1)
