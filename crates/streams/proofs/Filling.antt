-- What a read brings behind what has come.
use Rattle.std.proofs.Common.{◌≡◌, ℕ, ◌+◌, ◌≤◌, List, ◌++◌, length, take, drop, Option, sym, ap, ◌∙◌, subst}
use Rattle.std.specs.Io.KnownBytes.{Consumes}
use Rattle.std.proofs.KnownBytes.{Consumes-trans}
use borrow.Rule.Slice.PartMut.{put_mid, post_of, take_put}
use lib.Seq.{drop_at, take-add, take-append-le, length-take-le}

pub filled : (a b c : Option (List ℕ)) (buf part : List ℕ) (done room n : ℕ) → done ≤ length buf → n ≤ length part
    → Consumes a b (take done buf) → Consumes b c (take n part) → Consumes a c (take (done + n) (put_mid done room buf part))
filled a b c buf part done room n h l p q =
    let old = take_put done room buf part h in
    let new = ap (take n) (drop_at (take done buf) (part ++ post_of done room buf) done (length-take-le done buf h)) ∙ take-append-le n part (post_of done room buf) l in
    let whole : take (done + n) (put_mid done room buf part) ≡ take done buf ++ take n part = take-add done n (put_mid done room buf part) ∙ ap (λ s. s ++ take n (drop done (put_mid done room buf part))) old ∙ ap (λ s. take done buf ++ s) new in
    subst (Consumes a c) (sym whole) (Consumes-trans a b c (take done buf) (take n part) p q)
