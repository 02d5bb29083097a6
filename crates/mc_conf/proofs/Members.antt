-- What is in a list, by recursion, and in lists that are made of others.
use Rattle.std.proofs.Common.{◌≡◌, ◌++◌, inl, inr, ◌⊎◌, zero, suc, Contains, List, [], ◌∷◌, Option, Some, None, refl, ap, sym, ◌∙◌, arith, subst}
use Rattle.std.specs.List.{AllByRecursion, cons_option, filter_map, flat_map}

abbrev pub IsIn : {X : Type 0} → X → List X → Type 0
IsIn x [] = ⊥
IsIn x (first ∷ rest) = (x ≡ first) ⊎ IsIn x rest

-- ---- the same by index

contained_more : {X : Type 0} (x first : X) (rest : List X) → Contains rest x → Contains (first ∷ rest) x
contained_more x first rest (k, below, is) = (suc k, omega arith, is)

pub contained : {X : Type 0} (x : X) (xs : List X) → IsIn x xs → Contains xs x
contained x [] in_it = absurd in_it
contained x (first ∷ rest) (inl is) = (0, omega arith, sym is)
contained x (first ∷ rest) (inr later) = contained_more x first rest (contained x rest later)

pub is_in : {X : Type 0} (x : X) (xs : List X) → Contains xs x → IsIn x xs
is_in x [] (k, below, is) = absurd (omega arith)
is_in x (first ∷ rest) (zero, below, is) = inl (sym is)
is_in x (first ∷ rest) (suc k, below, is) = inr (is_in x rest (k, omega arith, is))

-- ---- all of them

pub all_in : {X : Type 0} (P : X → Type 0) (xs : List X) (x : X) → AllByRecursion P xs → IsIn x xs → P x
all_in P [] x all in_it = absurd in_it
all_in P (first ∷ rest) x all (inl is) = subst P (sym is) all.0
all_in P (first ∷ rest) x all (inr later) = all_in P rest x all.1 later

pub each_in : {X : Type 0} (P : X → Type 0) (xs : List X) → ((x : X) → IsIn x xs → P x) → AllByRecursion P xs
each_in P [] each = tt
each_in P (first ∷ rest) each = (each first (inl refl), each_in P rest (λ x later. each x (inr later)))

-- ---- appended

pub in_left : {X : Type 0} (x : X) (xs ys : List X) → IsIn x xs → IsIn x (xs ++ ys)
in_left x [] ys in_it = absurd in_it
in_left x (first ∷ rest) ys (inl is) = inl is
in_left x (first ∷ rest) ys (inr later) = inr (in_left x rest ys later)

pub in_right : {X : Type 0} (x : X) (xs ys : List X) → IsIn x ys → IsIn x (xs ++ ys)
in_right x [] ys in_it = in_it
in_right x (first ∷ rest) ys in_it = inr (in_right x rest ys in_it)

or_later : {X : Type 0} (x first : X) (rest ys : List X) → IsIn x rest ⊎ IsIn x ys → IsIn x (first ∷ rest) ⊎ IsIn x ys
or_later x first rest ys (inl one) = inl (inr one)
or_later x first rest ys (inr two) = inr two

pub in_either : {X : Type 0} (x : X) (xs ys : List X) → IsIn x (xs ++ ys) → IsIn x xs ⊎ IsIn x ys
in_either x [] ys in_it = inr in_it
in_either x (first ∷ rest) ys (inl is) = inl (inl is)
in_either x (first ∷ rest) ys (inr later) = or_later x first rest ys (in_either x rest ys later)

-- ---- what some give

-- an element of a list gives this
abbrev pub Given : {X Y : Type 0} → (X → Option Y) → List X → Y → Type 0
Given {X} {Y} f xs y = (x : X) × IsIn x xs × (f x ≡ Some y)

given_more : {X Y : Type 0} (f : X → Option Y) (first : X) (rest : List X) (y : Y) → Given f rest y → Given f (first ∷ rest) y
given_more f first rest y (x, later, is) = (x, inr later, is)

given_by : {X Y : Type 0} (f : X → Option Y) (first : X) (rest : List X) (y : Y) (o : Option Y) (ys : List Y) → f first ≡ o → IsIn y (cons_option o ys) → (IsIn y ys → Given f rest y) → Given f (first ∷ rest) y
given_by f first rest y None ys is in_it more = given_more f first rest y (more in_it)
given_by f first rest y (Some made) ys is (inl same) more = (first, inl refl, is ∙ ap Some (sym same))
given_by f first rest y (Some made) ys is (inr later) more = given_more f first rest y (more later)

pub given : {X Y : Type 0} (f : X → Option Y) (xs : List X) (y : Y) → IsIn y (filter_map f xs) → Given f xs y
given f [] y in_it = absurd in_it
given f (first ∷ rest) y in_it = given_by f first rest y (f first) (filter_map f rest) refl in_it (given f rest y)

kept_first : {Y : Type 0} (o : Option Y) (y : Y) (ys : List Y) → o ≡ Some y → IsIn y (cons_option o ys)
kept_first None y ys is = absurd (cc)
kept_first (Some made) y ys is = let same : y ≡ made = cc in inl same

kept_later : {Y : Type 0} (o : Option Y) (y : Y) (ys : List Y) → IsIn y ys → IsIn y (cons_option o ys)
kept_later None y ys later = later
kept_later (Some made) y ys later = inr later

pub gives : {X Y : Type 0} (f : X → Option Y) (xs : List X) (x : X) (y : Y) → IsIn x xs → f x ≡ Some y → IsIn y (filter_map f xs)
gives f [] x y in_it is = absurd in_it
gives f (first ∷ rest) x y (inl same) is = kept_first (f first) y (filter_map f rest) (ap f (sym same) ∙ is)
gives f (first ∷ rest) x y (inr later) is = kept_later (f first) y (filter_map f rest) (gives f rest x y later is)

-- ---- what lists that some give have

abbrev pub Listed : {X Y : Type 0} → (X → List Y) → List X → Y → Type 0
Listed {X} {Y} f xs y = (x : X) × IsIn x xs × IsIn y (f x)

listed_by : {X Y : Type 0} (f : X → List Y) (first : X) (rest : List X) (y : Y) (more : List Y) → IsIn y (f first) ⊎ IsIn y more → (IsIn y more → Listed f rest y) → Listed f (first ∷ rest) y
listed_by f first rest y more (inl here) later = (first, inl refl, here)
listed_by f first rest y more (inr there) later = let found : Listed f rest y = later there in (found.0, inr found.1, found.2)

pub listed : {X Y : Type 0} (f : X → List Y) (xs : List X) (y : Y) → IsIn y (flat_map f xs) → Listed f xs y
listed f [] y in_it = absurd in_it
listed f (first ∷ rest) y in_it = listed_by f first rest y (flat_map f rest) (in_either y (f first) (flat_map f rest) in_it) (listed f rest y)

pub lists : {X Y : Type 0} (f : X → List Y) (xs : List X) (x : X) (y : Y) → IsIn x xs → IsIn y (f x) → IsIn y (flat_map f xs)
lists f [] x y in_it there = absurd in_it
lists {X = X} f (first ∷ rest) x y (inl same) there = in_left y (f first) (flat_map f rest) (subst (λ (z : X). IsIn y (f z)) same there)
lists f (first ∷ rest) x y (inr later) there = in_right y (f first) (flat_map f rest) (lists f rest x y later there)
