-- Lists in two parts.
use Rattle.std.proofs.Common.{◌≡◌, List, [], ◌∷◌, ◌++◌, length, slice_index_or, slice_set, sym, subst, arith}
use Rattle.std.specs.List.{AllByRecursion, AllZip}
use Rattle.mc_live.specs.Beside.{AllThree}

-- ---- the parts

pub all_first : {X : Type 0} (P : X → Type 0) (xs ys : List X) → AllByRecursion P (xs ++ ys) → AllByRecursion P xs
all_first P [] ys all = tt
all_first P (x ∷ xs) ys all = (all.0, all_first P xs ys all.1)

pub all_last : {X : Type 0} (P : X → Type 0) (xs ys : List X) → AllByRecursion P (xs ++ ys) → AllByRecursion P ys
all_last P [] ys all = all
all_last P (x ∷ xs) ys all = all_last P xs ys all.1

pub zip_long : {X Y : Type 0} (R : X → Y → Type 0) (xs : List X) (ys : List Y) → AllZip R xs ys → length ys ≡ length xs
zip_long R [] [] all = omega arith
zip_long R [] (y ∷ ys) all = absurd all
zip_long R (x ∷ xs) [] all = absurd all
zip_long R (x ∷ xs) (y ∷ ys) all = let rest = zip_long R xs ys all.1 in omega (arith, rest)

pub zip_first : {X Y : Type 0} (R : X → Y → Type 0) (xs more : List X) (ys others : List Y) → length xs ≡ length ys → AllZip R (xs ++ more) (ys ++ others) → AllZip R xs ys
zip_first R [] more [] others same all = tt
zip_first R [] more (y ∷ ys) others same all = absurd (omega (arith, same))
zip_first R (x ∷ xs) more [] others same all = absurd (omega (arith, same))
zip_first R (x ∷ xs) more (y ∷ ys) others same all = (all.0, zip_first R xs more ys others (omega (arith, same)) all.1)

pub zip_last : {X Y : Type 0} (R : X → Y → Type 0) (xs more : List X) (ys others : List Y) → length xs ≡ length ys → AllZip R (xs ++ more) (ys ++ others) → AllZip R more others
zip_last R [] more [] others same all = all
zip_last R [] more (y ∷ ys) others same all = absurd (omega (arith, same))
zip_last R (x ∷ xs) more [] others same all = absurd (omega (arith, same))
zip_last R (x ∷ xs) more (y ∷ ys) others same all = zip_last R xs more ys others (omega (arith, same)) all.1

-- ---- and both together

pub three_both : {X Y Z : Type 0} (R : X → Y → Z → Type 0) (xs xs2 : List X) (ys ys2 : List Y) (zs zs2 : List Z) → AllThree R xs ys zs → AllThree R xs2 ys2 zs2 → AllThree R (xs ++ xs2) (ys ++ ys2) (zs ++ zs2)
three_both R [] xs2 [] ys2 [] zs2 one two = two
three_both R (x ∷ xs) xs2 (y ∷ ys) ys2 (z ∷ zs) zs2 one two = (one.0, three_both R xs xs2 ys ys2 zs zs2 one.1 two)
three_both R [] xs2 [] ys2 (z ∷ zs) zs2 one two = absurd one
three_both R [] xs2 (y ∷ ys) ys2 zs zs2 one two = absurd one
three_both R (x ∷ xs) xs2 [] ys2 zs zs2 one two = absurd one
three_both R (x ∷ xs) xs2 (y ∷ ys) ys2 [] zs2 one two = absurd one

pub three_joined : {X Y Z : Type 0} (R : X → Y → Z → Type 0) (all xs xs2 : List X) (old ys ys2 : List Y) (new zs zs2 : List Z) → all ≡ xs ++ xs2 → old ≡ ys ++ ys2 → new ≡ zs ++ zs2 → AllThree R xs ys zs → AllThree R xs2 ys2 zs2 → AllThree R all old new
three_joined R all xs xs2 old ys ys2 new zs zs2 is was now one two = rw (is, was, now) (three_both R xs xs2 ys ys2 zs zs2 one two)

-- ---- one alone, and none

pub none_alone : {X Y : Type 0} (R : X → Y → Type 0) (Q : X → Y → Y → Type 0) (xs : List X) (ys : List Y) → AllZip R xs ys → length ys ≡ 0 → AllThree Q xs ys ys
none_alone R Q [] [] all none = tt
none_alone R Q [] (y ∷ ys) all none = absurd all
none_alone R Q (x ∷ xs) [] all none = absurd all
none_alone R Q (x ∷ xs) (y ∷ ys) all none = absurd (omega (arith, none))

-- the first of each
pub zip_head : {X Y : Type 0} (R : X → Y → Type 0) (xs : List X) (ys : List Y) (x : X) (e : Y) → x ≡ slice_index_or xs 0 x → AllZip R xs ys → length ys ≡ 1 → R x (slice_index_or ys 0 e)
zip_head R [] [] x e is all one = absurd (omega (arith, one))
zip_head R [] (y ∷ ys) x e is all one = absurd all
zip_head R (z ∷ xs) [] x e is all one = absurd all
zip_head R (z ∷ xs) (y ∷ ys) x e is all one = subst (λ w. R w y) (sym is) all.0

pub all_head : {X Y : Type 0} (P : X → Type 0) (R : X → Y → Type 0) (xs : List X) (ys : List Y) (x : X) → x ≡ slice_index_or xs 0 x → AllZip R xs ys → length ys ≡ 1 → AllByRecursion P xs → P x
all_head P R [] [] x is zip one all = absurd (omega (arith, one))
all_head P R [] (y ∷ ys) x is zip one all = absurd zip
all_head P R (z ∷ xs) ys x is zip one all = subst P (sym is) all.0

pub one_alone : {X Y : Type 0} (R : X → Y → Type 0) (Q : X → Y → Y → Type 0) (xs : List X) (ys : List Y) (x : X) (e new : Y) → x ≡ slice_index_or xs 0 x → AllZip R xs ys → length ys ≡ 1 → Q x (slice_index_or ys 0 e) new → AllThree Q xs ys (slice_set ys 0 new)
one_alone R Q [] [] x e new at all one is = absurd (omega (arith, one))
one_alone R Q [] (y ∷ ys) x e new at all one is = absurd all
one_alone R Q (z ∷ xs) [] x e new at all one is = absurd all
one_alone R Q (z ∷ []) (y ∷ []) x e new at all one is = (subst (λ w. Q w y new) at is, tt)
one_alone R Q (z ∷ []) (y ∷ w ∷ ys) x e new at all one is = absurd all.1
one_alone R Q (z ∷ w ∷ xs) (y ∷ []) x e new at all one is = absurd all.1
one_alone R Q (z ∷ w ∷ xs) (y ∷ v ∷ ys) x e new at all one is = absurd (omega (arith, one))
