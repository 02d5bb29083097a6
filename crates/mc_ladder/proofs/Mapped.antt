-- What each element of a list gives, for one more of them.
use Rattle.std.proofs.Common.{◌≡◌, ◌<◌, ◌≤◌, ◌+◌, ◌∙◌, ◌++◌, ℕ, List, [], ◌∷◌, drop, length, map, ap, sym, append_assoc}
use Rattle.std.proofs.Math.ListN.{get_or}
use Rattle.std.proofs.lemmas.List.{drop_more}

pub mapped_more : {X Y : Type 0} (f : X → Y) (xs : List X) (so_far next whole : List Y) (i : ℕ) (x : X) → i < length xs → next ≡ so_far ++ f (get_or xs i x) ∷ []
    → so_far ++ map f (drop i xs) ≡ whole → next ++ map f (drop (i + 1) xs) ≡ whole
mapped_more f xs so_far next whole i x below is now =
    ap (λ l. l ++ map f (drop (i + 1) xs)) is
    ∙ (append_assoc so_far (f (get_or xs i x) ∷ []) (map f (drop (i + 1) xs))
    ∙ (ap (λ l. so_far ++ map f l) (sym (drop_more xs i x below)) ∙ now))
