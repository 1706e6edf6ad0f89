-- Document 01, 'Twelve calls': the letters, as their bytes in ASCII.
use Rattle.std.specs.Prelude.{ℕ}

-- new user
abbrev pub U : ℕ
U = 85

-- start run
abbrev pub S : ℕ
S = 83

-- end run
abbrev pub E : ℕ
E = 69

-- new segment
abbrev pub N : ℕ
N = 78

-- new D key
abbrev pub K : ℕ
K = 75

-- give key
abbrev pub G : ℕ
G = 71

-- take key
abbrev pub T : ℕ
T = 84

-- lock
abbrev pub L : ℕ
L = 76

-- drop lock
abbrev pub D : ℕ
D = 68

-- call
abbrev pub C : ℕ
C = 67

-- return
abbrev pub R : ℕ
R = 82

-- access
abbrev pub A : ℕ
A = 65
