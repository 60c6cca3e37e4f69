-- The definitions at work on small lists.
use Rattle.std.specs.Prelude.{ℕ, ◌≡◌, refl, [], ◌∷◌}
use Rattle.buffers.specs.Moves.{moved_up, moved_down}
use Rattle.buffers.specs.Words.{number, spelled}
use Rattle.buffers.specs.Writes.{placed}

pub record Examples : Type 0 where
  -- by two up: the first two stay, the last two are lost
  pub up : moved_up {A = ℕ} 2 (1 ∷ 2 ∷ 3 ∷ 4 ∷ 5 ∷ []) ≡ 1 ∷ 2 ∷ 1 ∷ 2 ∷ 3 ∷ []
  -- by all: nothing moves
  pub up_all : moved_up {A = ℕ} 3 (1 ∷ 2 ∷ 3 ∷ []) ≡ 1 ∷ 2 ∷ 3 ∷ []
  -- by two down: the first two are lost, two zeros come in
  pub down : moved_down {A = ℕ} 2 0 (1 ∷ 2 ∷ 3 ∷ 4 ∷ 5 ∷ []) ≡ 3 ∷ 4 ∷ 5 ∷ 0 ∷ 0 ∷ []
  pub down_none : moved_down {A = ℕ} 0 0 (1 ∷ 2 ∷ 3 ∷ []) ≡ 1 ∷ 2 ∷ 3 ∷ []
  -- the low byte comes first
  pub low_first : number (1 ∷ 2 ∷ 0 ∷ []) ≡ 513
  pub greatest : number (255 ∷ 255 ∷ 255 ∷ 255 ∷ 255 ∷ 255 ∷ 255 ∷ 255 ∷ []) ≡ 18446744073709551615
  pub bytes_of : spelled 4 513 ≡ 1 ∷ 2 ∷ 0 ∷ 0 ∷ []
  -- what k bytes can't hold is lost
  pub too_great : spelled 1 513 ≡ 1 ∷ []
  pub in_place : placed {A = ℕ} (1 ∷ 2 ∷ 3 ∷ 4 ∷ 5 ∷ []) 1 (8 ∷ 9 ∷ []) ≡ 1 ∷ 8 ∷ 9 ∷ 4 ∷ 5 ∷ []

pub examples : Examples
unfolding moved_up moved_down number spelled
examples =
    record {
      up = refl;
      up_all = refl;
      down = refl;
      down_none = refl;
      low_first = refl;
      greatest = refl;
      bytes_of = refl;
      too_great = refl;
      in_place = refl;
    }
