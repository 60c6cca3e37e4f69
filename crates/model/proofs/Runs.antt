-- Lists of calls: one behind the other, and one that imitates another.
use mathlib.Core.Path.{◌≡◌, refl, sym, ◌∙◌, ap, ap₂}
use mathlib.Core.List.{List, [], ◌∷◌, ◌++◌, map, append_assoc}
use Rattle.model.specs.Run.{left, gathered}

module _ {S C : Type 0} (step : S → C → S) where
  pub left_append : (s : S) (cs ds : List C) → left step s (cs ++ ds) ≡ left step (left step s cs) ds
  left_append s [] ds = refl
  left_append s (c ∷ cs) ds = left_append (step s c) cs ds

  -- What each call keeps, a list of calls keeps.
  pub left_keeps : (Known : S → Type 0) → ((s : S) (c : C) → Known s → Known (step s c)) → (s : S) (cs : List C) → Known s → Known (left step s cs)
  left_keeps Known stays s [] k = k
  left_keeps Known stays s (c ∷ cs) k = left_keeps Known stays (step s c) cs (stays s c k)

  pub gathered_append : {A : Type 0} (tell : S → C → List A) (s : S) (cs ds : List C) → gathered step tell s (cs ++ ds) ≡ gathered step tell s cs ++ gathered step tell (left step s cs) ds
  gathered_append tell s [] ds = refl
  gathered_append {A} tell s (c ∷ cs) ds =
      ap (λ (x : List A). tell s c ++ x) (gathered_append tell (step s c) cs ds)
      ∙ sym (append_assoc (tell s c) (gathered step tell (step s c) cs) (gathered step tell (left step (step s c) cs) ds))

-- What stands for a state in the other run, and for a call; what is known of a state stays, and each call is imitated.
module _ {S T C D : Type 0} (step : S → C → S) (step' : T → D → T) (f : S → T) (g : C → D) (Known : S → Type 0) (stays : (s : S) (c : C) → Known s → Known (step s c)) (follows : (s : S) (c : C) → Known s → f (step s c) ≡ step' (f s) (g c)) where
  pub left_as : (s : S) (cs : List C) → Known s → f (left step s cs) ≡ left step' (f s) (map g cs)
  left_as s [] k = refl
  left_as s (c ∷ cs) k = left_as (step s c) cs (stays s c k) ∙ ap (λ (t : T). left step' t (map g cs)) (follows s c k)

  pub gathered_as : {A : Type 0} (tell : S → C → List A) (tell' : T → D → List A) → ((s : S) (c : C) → Known s → tell s c ≡ tell' (f s) (g c))
      → (s : S) (cs : List C) → Known s → gathered step tell s cs ≡ gathered step' tell' (f s) (map g cs)
  gathered_as tell tell' same s [] k = refl
  gathered_as {A} tell tell' same s (c ∷ cs) k =
      ap₂ (λ (x y : List A). x ++ y) (same s c k)
      (gathered_as tell tell' same (step s c) cs (stays s c k) ∙ ap (λ (t : T). gathered step' tell' t (map g cs)) (follows s c k))
