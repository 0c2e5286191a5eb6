use Rattle.std.specs.Prelude.{ℕ, List, Bool, ◌≤◌, ◌&&◌, ◌||◌, ◌==◌, ◌≡◌, nat_le, length, All, true}

-- a to z, A to Z, 0 to 9 and the underscore
abbrev pub name_character : ℕ → Bool
name_character b = (nat_le 97 b && nat_le b 122) || ((nat_le 65 b && nat_le b 90) || ((nat_le 48 b && nat_le b 57) || (b == 95)))

-- a name is 1 to 32 of these characters (own rule)
pub record IsName (bytes : List ℕ) : Type 0 where
  pub some : 1 ≤ length bytes
  pub few : length bytes ≤ 32
  pub each : All (λ b. name_character b ≡ true) bytes
