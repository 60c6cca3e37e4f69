-- A fate, and what a buffer keeps of it: the fate itself, or a byte.
use Rattle.std.specs.Prelude.{◌≡◌, ℕ, ◌==◌, refl}
use Rattle.buffers.specs.Choices.{pick}
use Rattle.model.specs.declared.Fate.{Fate}
use Rattle.model.specs.declared.Fate.TheVariants.{Stays, Goes, Gains}

-- ## The fate itself

abbrev pub same_fate : Fate → Fate
same_fate f = f

pub same_back : (f : Fate) → same_fate (same_fate f) ≡ f
same_back f = refl

-- ## A byte

-- the byte of a fate: 0 it stays, 1 it goes, 2 it gains a marker
abbrev pub fate_byte : Fate → ℕ
fate_byte Stays = 0
fate_byte Goes = 1
fate_byte Gains = 2

-- the fate that a byte stands for
abbrev pub fate_of : ℕ → Fate
fate_of f = pick (f == 1) Goes (pick (f == 2) Gains Stays)

pub byte_back : (f : Fate) → fate_of (fate_byte f) ≡ f
byte_back Stays = refl
byte_back Goes = refl
byte_back Gains = refl
