-- What searches by the built-in table for lines reach, as `bin/make-line-proof` makes it: rows, with the states of the monitor there and the marks.
use Rattle.std.proofs.Common.{ℕ, true, false, List, [], ◌∷◌, Option, Some, None}
use Rattle.rbbi_annexes.proofs.Agreement.{Mark, Open, Past}
use Rattle.rbbi_annexes.proofs.Checker.{Entry, Marks}

abbrev at : ℕ → ℕ → ℕ → Marks → Entry ℕ
at row label state marks = record { row = row; label = label; state = state; marks = marks }

abbrev no : Option Mark
no = None

abbrev still : Option Mark
still = Some Open

abbrev past_1 : Option Mark
past_1 = Some (Past false (1 ∷ []))

abbrev exact_1 : Option Mark
exact_1 = Some (Past true (1 ∷ []))

abbrev exact : Option Mark
exact = Some (Past true [])

abbrev exact_2 : Option Mark
exact_2 = Some (Past true (2 ∷ []))

abbrev past_2 : Option Mark
past_2 = Some (Past false (2 ∷ []))

abbrev past_0 : Option Mark
past_0 = Some (Past false (0 ∷ []))

abbrev past_1_0 : Option Mark
past_1_0 = Some (Past false (1 ∷ 0 ∷ []))

abbrev exact_0 : Option Mark
exact_0 = Some (Past true (0 ∷ []))

abbrev exact_1_0 : Option Mark
exact_1_0 = Some (Past true (1 ∷ 0 ∷ []))

unfoldable pub m0 : Marks
m0 = still ∷ still ∷ still ∷ still ∷ still ∷ still ∷ still ∷ []

unfoldable pub m1 : Marks
m1 = no ∷ no ∷ no ∷ no ∷ no ∷ no ∷ no ∷ []

unfoldable pub m2 : Marks
m2 = no ∷ still ∷ still ∷ still ∷ still ∷ no ∷ no ∷ []

unfoldable pub m3 : Marks
m3 = still ∷ still ∷ no ∷ still ∷ still ∷ still ∷ no ∷ []

unfoldable pub m4 : Marks
m4 = still ∷ still ∷ no ∷ still ∷ still ∷ still ∷ still ∷ []

unfoldable pub m5 : Marks
m5 = no ∷ no ∷ still ∷ no ∷ no ∷ no ∷ no ∷ []

unfoldable pub m6 : Marks
m6 = no ∷ no ∷ no ∷ still ∷ no ∷ still ∷ no ∷ []

unfoldable pub m7 : Marks
m7 = still ∷ still ∷ still ∷ still ∷ no ∷ still ∷ still ∷ []

unfoldable pub m8 : Marks
m8 = still ∷ still ∷ past_1 ∷ still ∷ still ∷ still ∷ still ∷ []

unfoldable pub m9 : Marks
m9 = still ∷ still ∷ exact_1 ∷ still ∷ still ∷ still ∷ still ∷ []

unfoldable pub m10 : Marks
m10 = still ∷ past_1 ∷ past_1 ∷ past_1 ∷ past_1 ∷ still ∷ still ∷ []

unfoldable pub m11 : Marks
m11 = still ∷ exact_1 ∷ exact_1 ∷ exact_1 ∷ exact_1 ∷ still ∷ still ∷ []

unfoldable pub m12 : Marks
m12 = exact ∷ exact ∷ still ∷ exact ∷ exact ∷ exact ∷ still ∷ []

unfoldable pub m13 : Marks
m13 = exact_2 ∷ exact_2 ∷ still ∷ exact_2 ∷ exact_2 ∷ exact_2 ∷ still ∷ []

unfoldable pub m14 : Marks
m14 = still ∷ still ∷ still ∷ past_2 ∷ still ∷ past_2 ∷ still ∷ []

unfoldable pub m15 : Marks
m15 = still ∷ still ∷ still ∷ exact_2 ∷ still ∷ exact_2 ∷ still ∷ []

unfoldable pub m16 : Marks
m16 = exact ∷ exact ∷ exact ∷ exact ∷ still ∷ exact ∷ exact ∷ []

unfoldable pub m17 : Marks
m17 = still ∷ still ∷ past_0 ∷ still ∷ still ∷ still ∷ still ∷ []

unfoldable pub m18 : Marks
m18 = still ∷ still ∷ past_1_0 ∷ still ∷ still ∷ still ∷ still ∷ []

unfoldable pub m19 : Marks
m19 = still ∷ still ∷ exact_0 ∷ still ∷ still ∷ still ∷ still ∷ []

unfoldable pub m20 : Marks
m20 = still ∷ still ∷ exact_1_0 ∷ still ∷ still ∷ still ∷ still ∷ []

unfoldable pub m21 : Marks
m21 = still ∷ past_0 ∷ past_0 ∷ past_0 ∷ past_0 ∷ still ∷ still ∷ []

unfoldable pub m22 : Marks
m22 = still ∷ past_1_0 ∷ past_1_0 ∷ past_1_0 ∷ past_1_0 ∷ still ∷ still ∷ []

unfoldable pub m23 : Marks
m23 = still ∷ exact_0 ∷ exact_0 ∷ exact_0 ∷ exact_0 ∷ still ∷ still ∷ []

unfoldable pub m24 : Marks
m24 = still ∷ exact_1_0 ∷ exact_1_0 ∷ exact_1_0 ∷ exact_1_0 ∷ still ∷ still ∷ []

unfoldable pub m25 : Marks
m25 = exact ∷ exact ∷ still ∷ exact ∷ exact ∷ exact ∷ exact ∷ []

unfoldable pub m26 : Marks
m26 = exact_2 ∷ exact_2 ∷ still ∷ exact_2 ∷ exact_2 ∷ exact_2 ∷ exact_2 ∷ []

unfoldable pub row_2 : List (Entry ℕ)
row_2 =
    at 2 0 1 m0 ∷ at 2 0 1 m1 ∷ []

unfoldable pub row_3 : List (Entry ℕ)
row_3 =
    at 3 0 2 m0 ∷ at 3 0 2 m1 ∷ at 3 0 61 m0 ∷ at 3 0 61 m1 ∷ []

unfoldable pub row_4 : List (Entry ℕ)
row_4 =
    at 4 100 3 m0 ∷ at 4 100 3 m1 ∷ at 4 100 4 m0 ∷ at 4 100 4 m1 ∷ []

unfoldable pub row_5 : List (Entry ℕ)
row_5 =
    at 5 100 5 m0 ∷ at 5 100 5 m1 ∷ []

unfoldable pub row_6 : List (Entry ℕ)
row_6 =
    at 6 0 6 m0 ∷ at 6 0 6 m1 ∷ []

unfoldable pub row_7 : List (Entry ℕ)
row_7 =
    at 7 0 7 m0 ∷ at 7 0 7 m1 ∷ at 7 0 27 m0 ∷ at 7 0 27 m1 ∷ at 7 0 29 m0 ∷ at 7 0 29 m1 ∷ at 7 0 32 m0 ∷ at 7 0 32 m1 ∷ at 7 0 36 m0 ∷ at 7 0 36 m1 ∷
    at 7 0 128 m0 ∷ at 7 0 128 m1 ∷ []

unfoldable pub row_8 : List (Entry ℕ)
row_8 =
    at 8 0 8 m0 ∷ at 8 0 8 m1 ∷ at 8 0 22 m0 ∷ at 8 0 22 m2 ∷ at 8 0 22 m1 ∷ at 8 0 60 m0 ∷ at 8 0 60 m1 ∷ at 8 0 64 m0 ∷ at 8 0 64 m1 ∷ at 8 0 86 m0 ∷
    at 8 0 86 m2 ∷ at 8 0 86 m1 ∷ at 8 0 90 m0 ∷ at 8 0 90 m1 ∷ at 8 0 91 m0 ∷ at 8 0 91 m1 ∷ at 8 0 132 m0 ∷ at 8 0 132 m1 ∷ at 8 0 141 m0 ∷ at 8 0 141 m1 ∷
    at 8 0 142 m0 ∷ at 8 0 142 m1 ∷ []

unfoldable pub row_9 : List (Entry ℕ)
row_9 =
    at 9 0 1 m0 ∷ at 9 0 1 m1 ∷ []

unfoldable pub row_10 : List (Entry ℕ)
row_10 =
    at 10 0 9 m0 ∷ at 10 0 9 m1 ∷ []

unfoldable pub row_11 : List (Entry ℕ)
row_11 =
    at 11 0 10 m0 ∷ at 11 0 10 m1 ∷ []

unfoldable pub row_12 : List (Entry ℕ)
row_12 =
    at 12 0 11 m0 ∷ at 12 0 11 m3 ∷ at 12 0 11 m1 ∷ at 12 0 19 m0 ∷ at 12 0 19 m1 ∷ at 12 0 68 m0 ∷ at 12 0 68 m3 ∷ at 12 0 68 m1 ∷ at 12 0 83 m0 ∷
    at 12 0 83 m1 ∷ at 12 0 110 m0 ∷ at 12 0 110 m1 ∷ at 12 0 145 m0 ∷ at 12 0 145 m1 ∷ []

unfoldable pub row_13 : List (Entry ℕ)
row_13 =
    at 13 0 12 m0 ∷ at 13 0 12 m1 ∷ []

unfoldable pub row_14 : List (Entry ℕ)
row_14 =
    at 14 0 13 m0 ∷ at 14 0 13 m4 ∷ at 14 0 13 m5 ∷ at 14 0 13 m1 ∷ []

unfoldable pub row_15 : List (Entry ℕ)
row_15 =
    at 15 0 14 m0 ∷ at 15 0 14 m1 ∷ []

unfoldable pub row_16 : List (Entry ℕ)
row_16 =
    at 16 0 15 m0 ∷ at 16 0 15 m1 ∷ []

unfoldable pub row_17 : List (Entry ℕ)
row_17 =
    at 17 0 16 m0 ∷ at 17 0 16 m1 ∷ []

unfoldable pub row_18 : List (Entry ℕ)
row_18 =
    at 18 0 17 m0 ∷ at 18 0 17 m1 ∷ []

unfoldable pub row_19 : List (Entry ℕ)
row_19 =
    at 19 0 18 m0 ∷ at 19 0 18 m1 ∷ at 19 0 81 m0 ∷ at 19 0 81 m1 ∷ []

unfoldable pub row_20 : List (Entry ℕ)
row_20 =
    at 20 0 19 m0 ∷ at 20 0 19 m1 ∷ at 20 0 83 m0 ∷ at 20 0 83 m1 ∷ at 20 0 91 m6 ∷ at 20 0 142 m6 ∷ []

unfoldable pub row_21 : List (Entry ℕ)
row_21 =
    at 21 0 20 m0 ∷ at 21 0 20 m1 ∷ []

unfoldable pub row_22 : List (Entry ℕ)
row_22 =
    at 22 0 21 m0 ∷ at 22 0 21 m1 ∷ []

unfoldable pub row_23 : List (Entry ℕ)
row_23 =
    at 23 0 23 m0 ∷ at 23 0 23 m1 ∷ []

unfoldable pub row_24 : List (Entry ℕ)
row_24 =
    at 24 0 24 m0 ∷ at 24 0 24 m1 ∷ []

unfoldable pub row_25 : List (Entry ℕ)
row_25 =
    at 25 0 25 m0 ∷ at 25 0 25 m1 ∷ []

unfoldable pub row_26 : List (Entry ℕ)
row_26 =
    at 26 0 26 m0 ∷ at 26 0 26 m1 ∷ []

unfoldable pub row_27 : List (Entry ℕ)
row_27 =
    at 27 0 28 m0 ∷ at 27 0 28 m7 ∷ at 27 0 28 m1 ∷ at 27 0 30 m0 ∷ at 27 0 30 m7 ∷ at 27 0 30 m1 ∷ []

unfoldable pub row_28 : List (Entry ℕ)
row_28 =
    at 28 0 31 m0 ∷ at 28 0 31 m1 ∷ []

unfoldable pub row_29 : List (Entry ℕ)
row_29 =
    at 29 0 33 m0 ∷ at 29 0 33 m1 ∷ at 29 0 103 m0 ∷ at 29 0 103 m1 ∷ []

unfoldable pub row_30 : List (Entry ℕ)
row_30 =
    at 30 0 34 m0 ∷ at 30 0 34 m1 ∷ []

unfoldable pub row_31 : List (Entry ℕ)
row_31 =
    at 31 0 35 m0 ∷ at 31 0 35 m1 ∷ []

unfoldable pub row_32 : List (Entry ℕ)
row_32 =
    at 32 0 37 m0 ∷ at 32 0 37 m1 ∷ at 32 0 107 m0 ∷ at 32 0 107 m1 ∷ []

unfoldable pub row_33 : List (Entry ℕ)
row_33 =
    at 33 0 38 m0 ∷ at 33 0 38 m1 ∷ []

unfoldable pub row_34 : List (Entry ℕ)
row_34 =
    at 34 0 39 m0 ∷ at 34 0 39 m1 ∷ at 34 0 57 m0 ∷ at 34 0 57 m1 ∷ []

unfoldable pub row_35 : List (Entry ℕ)
row_35 =
    at 35 0 40 m0 ∷ at 35 0 40 m3 ∷ at 35 0 40 m1 ∷ at 35 0 111 m0 ∷ at 35 0 111 m3 ∷ at 35 0 111 m1 ∷ []

unfoldable pub row_36 : List (Entry ℕ)
row_36 =
    at 36 0 41 m0 ∷ at 36 0 41 m1 ∷ []

unfoldable pub row_37 : List (Entry ℕ)
row_37 =
    at 37 0 42 m0 ∷ at 37 0 42 m1 ∷ []

unfoldable pub row_38 : List (Entry ℕ)
row_38 =
    at 38 0 43 m0 ∷ at 38 0 43 m7 ∷ at 38 0 43 m1 ∷ []

unfoldable pub row_39 : List (Entry ℕ)
row_39 =
    at 39 0 44 m0 ∷ at 39 0 44 m1 ∷ []

unfoldable pub row_40 : List (Entry ℕ)
row_40 =
    at 40 0 45 m0 ∷ at 40 0 45 m1 ∷ []

unfoldable pub row_41 : List (Entry ℕ)
row_41 =
    at 41 0 46 m0 ∷ at 41 0 46 m1 ∷ []

unfoldable pub row_42 : List (Entry ℕ)
row_42 =
    at 42 0 47 m0 ∷ at 42 0 47 m1 ∷ at 42 0 50 m0 ∷ at 42 0 50 m1 ∷ at 42 0 51 m0 ∷ at 42 0 51 m1 ∷ []

unfoldable pub row_43 : List (Entry ℕ)
row_43 =
    at 43 0 48 m0 ∷ at 43 0 48 m1 ∷ []

unfoldable pub row_44 : List (Entry ℕ)
row_44 =
    at 44 0 49 m0 ∷ at 44 0 49 m1 ∷ []

unfoldable pub row_45 : List (Entry ℕ)
row_45 =
    at 45 0 52 m0 ∷ at 45 0 52 m1 ∷ []

unfoldable pub row_46 : List (Entry ℕ)
row_46 =
    at 46 0 53 m0 ∷ at 46 0 53 m1 ∷ []

unfoldable pub row_47 : List (Entry ℕ)
row_47 =
    at 47 0 54 m0 ∷ at 47 0 54 m1 ∷ []

unfoldable pub row_48 : List (Entry ℕ)
row_48 =
    at 48 0 55 m0 ∷ at 48 0 55 m1 ∷ at 48 0 126 m0 ∷ at 48 0 126 m1 ∷ []

unfoldable pub row_49 : List (Entry ℕ)
row_49 =
    at 49 0 56 m0 ∷ at 49 0 56 m1 ∷ []

unfoldable pub row_50 : List (Entry ℕ)
row_50 =
    at 50 0 58 m0 ∷ at 50 0 58 m1 ∷ []

unfoldable pub row_51 : List (Entry ℕ)
row_51 =
    at 51 0 59 m0 ∷ at 51 0 59 m1 ∷ []

unfoldable pub row_52 : List (Entry ℕ)
row_52 =
    at 52 0 60 m0 ∷ at 52 0 60 m1 ∷ at 52 0 132 m0 ∷ at 52 0 132 m1 ∷ []

unfoldable pub row_53 : List (Entry ℕ)
row_53 =
    at 53 0 6 m0 ∷ at 53 0 6 m1 ∷ []

unfoldable pub row_54 : List (Entry ℕ)
row_54 =
    at 54 0 62 m0 ∷ at 54 0 62 m1 ∷ at 54 0 133 m0 ∷ at 54 0 133 m1 ∷ []

unfoldable pub row_55 : List (Entry ℕ)
row_55 =
    at 55 0 13 m8 ∷ at 55 0 13 m9 ∷ at 55 0 13 m1 ∷ []

unfoldable pub row_56 : List (Entry ℕ)
row_56 =
    at 56 0 22 m10 ∷ at 56 0 22 m11 ∷ at 56 0 22 m1 ∷ at 56 0 86 m10 ∷ at 56 0 86 m1 ∷ []

unfoldable pub row_57 : List (Entry ℕ)
row_57 =
    at 57 0 63 m0 ∷ at 57 0 63 m1 ∷ at 57 0 96 m0 ∷ at 57 0 96 m1 ∷ at 57 0 99 m0 ∷ at 57 0 99 m1 ∷ at 57 0 102 m0 ∷ at 57 0 102 m1 ∷ at 57 0 106 m0 ∷
    at 57 0 106 m1 ∷ at 57 0 146 m0 ∷ at 57 0 146 m1 ∷ []

unfoldable pub row_58 : List (Entry ℕ)
row_58 =
    at 58 0 34 m0 ∷ at 58 0 34 m1 ∷ []

unfoldable pub row_59 : List (Entry ℕ)
row_59 =
    at 59 0 11 m12 ∷ at 59 0 11 m13 ∷ at 59 0 11 m1 ∷ at 59 0 40 m12 ∷ at 59 0 40 m13 ∷ at 59 0 40 m1 ∷ at 59 0 68 m12 ∷ at 59 0 68 m13 ∷ at 59 0 68 m1 ∷
    at 59 0 111 m12 ∷ at 59 0 111 m13 ∷ at 59 0 111 m1 ∷ []

unfoldable pub row_60 : List (Entry ℕ)
row_60 =
    at 60 0 65 m0 ∷ at 60 0 65 m1 ∷ []

unfoldable pub row_61 : List (Entry ℕ)
row_61 =
    at 61 0 66 m0 ∷ at 61 0 66 m1 ∷ []

unfoldable pub row_62 : List (Entry ℕ)
row_62 =
    at 62 0 67 m0 ∷ at 62 0 67 m1 ∷ at 62 0 82 m0 ∷ at 62 0 82 m1 ∷ []

unfoldable pub row_63 : List (Entry ℕ)
row_63 =
    at 63 0 69 m0 ∷ at 63 0 69 m1 ∷ []

unfoldable pub row_64 : List (Entry ℕ)
row_64 =
    at 64 0 70 m0 ∷ at 64 0 70 m1 ∷ []

unfoldable pub row_65 : List (Entry ℕ)
row_65 =
    at 65 0 71 m0 ∷ at 65 0 71 m4 ∷ at 65 0 71 m5 ∷ at 65 0 71 m1 ∷ []

unfoldable pub row_66 : List (Entry ℕ)
row_66 =
    at 66 0 72 m0 ∷ at 66 0 72 m1 ∷ []

unfoldable pub row_67 : List (Entry ℕ)
row_67 =
    at 67 0 73 m0 ∷ at 67 0 73 m1 ∷ []

unfoldable pub row_68 : List (Entry ℕ)
row_68 =
    at 68 0 74 m0 ∷ at 68 0 74 m1 ∷ []

unfoldable pub row_69 : List (Entry ℕ)
row_69 =
    at 69 0 75 m0 ∷ at 69 0 75 m1 ∷ []

unfoldable pub row_70 : List (Entry ℕ)
row_70 =
    at 70 0 76 m0 ∷ at 70 0 76 m1 ∷ []

unfoldable pub row_71 : List (Entry ℕ)
row_71 =
    at 71 0 77 m0 ∷ at 71 0 77 m1 ∷ []

unfoldable pub row_72 : List (Entry ℕ)
row_72 =
    at 72 0 78 m0 ∷ at 72 0 78 m1 ∷ []

unfoldable pub row_73 : List (Entry ℕ)
row_73 =
    at 73 0 79 m0 ∷ at 73 0 79 m1 ∷ []

unfoldable pub row_74 : List (Entry ℕ)
row_74 =
    at 74 0 80 m0 ∷ at 74 0 80 m1 ∷ []

unfoldable pub row_75 : List (Entry ℕ)
row_75 =
    at 75 0 6 m1 ∷ at 75 0 82 m0 ∷ at 75 0 82 m1 ∷ []

unfoldable pub row_76 : List (Entry ℕ)
row_76 =
    at 76 0 19 m0 ∷ at 76 0 19 m1 ∷ at 76 0 83 m0 ∷ at 76 0 83 m1 ∷ []

unfoldable pub row_77 : List (Entry ℕ)
row_77 =
    at 77 0 84 m0 ∷ at 77 0 84 m1 ∷ []

unfoldable pub row_78 : List (Entry ℕ)
row_78 =
    at 78 0 85 m0 ∷ at 78 0 85 m1 ∷ []

unfoldable pub row_79 : List (Entry ℕ)
row_79 =
    at 79 0 87 m0 ∷ at 79 0 87 m1 ∷ at 79 0 88 m0 ∷ at 79 0 88 m1 ∷ []

unfoldable pub row_80 : List (Entry ℕ)
row_80 =
    at 80 0 89 m0 ∷ at 80 0 89 m1 ∷ []

unfoldable pub row_81 : List (Entry ℕ)
row_81 =
    at 81 0 91 m14 ∷ at 81 0 91 m15 ∷ at 81 0 91 m1 ∷ at 81 0 142 m14 ∷ at 81 0 142 m1 ∷ []

unfoldable pub row_82 : List (Entry ℕ)
row_82 =
    at 82 0 92 m0 ∷ at 82 0 92 m1 ∷ []

unfoldable pub row_83 : List (Entry ℕ)
row_83 =
    at 83 0 93 m0 ∷ at 83 0 93 m1 ∷ []

unfoldable pub row_84 : List (Entry ℕ)
row_84 =
    at 84 0 94 m0 ∷ at 84 0 94 m1 ∷ []

unfoldable pub row_85 : List (Entry ℕ)
row_85 =
    at 85 0 95 m0 ∷ at 85 0 95 m1 ∷ []

unfoldable pub row_86 : List (Entry ℕ)
row_86 =
    at 86 0 28 m16 ∷ at 86 0 28 m1 ∷ at 86 0 30 m16 ∷ at 86 0 30 m1 ∷ at 86 0 43 m16 ∷ at 86 0 43 m1 ∷ at 86 0 98 m16 ∷ at 86 0 98 m1 ∷ at 86 0 100 m16 ∷
    at 86 0 100 m1 ∷ at 86 0 114 m16 ∷ at 86 0 114 m1 ∷ []

unfoldable pub row_87 : List (Entry ℕ)
row_87 =
    at 87 0 97 m0 ∷ at 87 0 97 m1 ∷ []

unfoldable pub row_88 : List (Entry ℕ)
row_88 =
    at 88 0 98 m0 ∷ at 88 0 98 m7 ∷ at 88 0 98 m1 ∷ at 88 0 100 m0 ∷ at 88 0 100 m7 ∷ at 88 0 100 m1 ∷ []

unfoldable pub row_89 : List (Entry ℕ)
row_89 =
    at 89 0 101 m0 ∷ at 89 0 101 m1 ∷ []

unfoldable pub row_90 : List (Entry ℕ)
row_90 =
    at 90 0 104 m0 ∷ at 90 0 104 m1 ∷ []

unfoldable pub row_91 : List (Entry ℕ)
row_91 =
    at 91 0 105 m0 ∷ at 91 0 105 m1 ∷ []

unfoldable pub row_92 : List (Entry ℕ)
row_92 =
    at 92 0 108 m0 ∷ at 92 0 108 m1 ∷ []

unfoldable pub row_93 : List (Entry ℕ)
row_93 =
    at 93 0 109 m0 ∷ at 93 0 109 m1 ∷ at 93 0 129 m0 ∷ at 93 0 129 m1 ∷ []

unfoldable pub row_94 : List (Entry ℕ)
row_94 =
    at 94 0 112 m0 ∷ at 94 0 112 m1 ∷ []

unfoldable pub row_95 : List (Entry ℕ)
row_95 =
    at 95 0 113 m0 ∷ at 95 0 113 m1 ∷ []

unfoldable pub row_96 : List (Entry ℕ)
row_96 =
    at 96 0 114 m0 ∷ at 96 0 114 m7 ∷ at 96 0 114 m1 ∷ []

unfoldable pub row_97 : List (Entry ℕ)
row_97 =
    at 97 0 115 m0 ∷ at 97 0 115 m1 ∷ []

unfoldable pub row_98 : List (Entry ℕ)
row_98 =
    at 98 0 116 m0 ∷ at 98 0 116 m1 ∷ []

unfoldable pub row_99 : List (Entry ℕ)
row_99 =
    at 99 0 117 m0 ∷ at 99 0 117 m1 ∷ []

unfoldable pub row_100 : List (Entry ℕ)
row_100 =
    at 100 0 118 m0 ∷ at 100 0 118 m1 ∷ at 100 0 121 m0 ∷ at 100 0 121 m1 ∷ at 100 0 122 m0 ∷ at 100 0 122 m1 ∷ []

unfoldable pub row_101 : List (Entry ℕ)
row_101 =
    at 101 0 119 m0 ∷ at 101 0 119 m1 ∷ []

unfoldable pub row_102 : List (Entry ℕ)
row_102 =
    at 102 0 120 m0 ∷ at 102 0 120 m1 ∷ []

unfoldable pub row_103 : List (Entry ℕ)
row_103 =
    at 103 0 123 m0 ∷ at 103 0 123 m1 ∷ []

unfoldable pub row_104 : List (Entry ℕ)
row_104 =
    at 104 0 124 m0 ∷ at 104 0 124 m1 ∷ []

unfoldable pub row_105 : List (Entry ℕ)
row_105 =
    at 105 0 125 m0 ∷ at 105 0 125 m1 ∷ []

unfoldable pub row_106 : List (Entry ℕ)
row_106 =
    at 106 0 127 m0 ∷ at 106 0 127 m1 ∷ []

unfoldable pub row_107 : List (Entry ℕ)
row_107 =
    at 107 0 130 m0 ∷ at 107 0 130 m1 ∷ []

unfoldable pub row_108 : List (Entry ℕ)
row_108 =
    at 108 0 131 m0 ∷ at 108 0 131 m1 ∷ []

unfoldable pub row_109 : List (Entry ℕ)
row_109 =
    at 109 0 13 m17 ∷ at 109 0 13 m18 ∷ at 109 0 13 m19 ∷ at 109 0 13 m20 ∷ at 109 0 13 m1 ∷ []

unfoldable pub row_110 : List (Entry ℕ)
row_110 =
    at 110 0 22 m21 ∷ at 110 0 22 m22 ∷ at 110 0 22 m23 ∷ at 110 0 22 m24 ∷ at 110 0 22 m1 ∷ at 110 0 86 m21 ∷ at 110 0 86 m22 ∷ at 110 0 86 m1 ∷ []

unfoldable pub row_112 : List (Entry ℕ)
row_112 =
    at 112 0 71 m8 ∷ at 112 0 71 m1 ∷ []

unfoldable pub row_113 : List (Entry ℕ)
row_113 =
    at 113 0 13 m25 ∷ at 113 0 13 m26 ∷ at 113 0 13 m1 ∷ at 113 0 71 m25 ∷ at 113 0 71 m26 ∷ at 113 0 71 m1 ∷ []

unfoldable pub row_114 : List (Entry ℕ)
row_114 =
    at 114 0 134 m0 ∷ at 114 0 134 m1 ∷ []

unfoldable pub row_115 : List (Entry ℕ)
row_115 =
    at 115 0 135 m0 ∷ at 115 0 135 m1 ∷ []

unfoldable pub row_116 : List (Entry ℕ)
row_116 =
    at 116 0 136 m0 ∷ at 116 0 136 m1 ∷ []

unfoldable pub row_117 : List (Entry ℕ)
row_117 =
    at 117 0 137 m0 ∷ at 117 0 137 m1 ∷ []

unfoldable pub row_118 : List (Entry ℕ)
row_118 =
    at 118 0 138 m0 ∷ at 118 0 138 m1 ∷ []

unfoldable pub row_119 : List (Entry ℕ)
row_119 =
    at 119 0 82 m0 ∷ at 119 0 82 m1 ∷ []

unfoldable pub row_120 : List (Entry ℕ)
row_120 =
    at 120 0 139 m0 ∷ at 120 0 139 m1 ∷ at 120 0 140 m0 ∷ at 120 0 140 m1 ∷ []

unfoldable pub row_122 : List (Entry ℕ)
row_122 =
    at 122 0 143 m0 ∷ at 122 0 143 m1 ∷ []

unfoldable pub row_123 : List (Entry ℕ)
row_123 =
    at 123 0 144 m0 ∷ at 123 0 144 m1 ∷ []

unfoldable pub row_125 : List (Entry ℕ)
row_125 =
    at 125 0 71 m17 ∷ at 125 0 71 m18 ∷ at 125 0 71 m1 ∷ []

unfoldable pub row_126 : List (Entry ℕ)
row_126 =
    at 126 0 1 m0 ∷ at 126 0 1 m1 ∷ []

unfoldable pub row_127 : List (Entry ℕ)
row_127 =
    at 127 0 34 m0 ∷ at 127 0 34 m1 ∷ []

unfoldable pub row_128 : List (Entry ℕ)
row_128 =
    at 128 0 6 m0 ∷ at 128 0 6 m1 ∷ []

unfoldable pub row_129 : List (Entry ℕ)
row_129 =
    at 129 0 60 m0 ∷ at 129 0 60 m1 ∷ at 129 0 132 m0 ∷ at 129 0 132 m1 ∷ []

-- the entries by their rows
unfoldable pub entries : List (List (Entry ℕ))
entries =
    [] ∷ [] ∷ row_2 ∷ row_3 ∷ row_4 ∷ row_5 ∷ row_6 ∷ row_7 ∷ row_8 ∷ row_9 ∷ row_10 ∷ row_11 ∷ row_12 ∷ row_13 ∷ row_14 ∷ row_15 ∷ row_16 ∷ row_17 ∷ row_18 ∷
    row_19 ∷ row_20 ∷ row_21 ∷ row_22 ∷ row_23 ∷ row_24 ∷ row_25 ∷ row_26 ∷ row_27 ∷ row_28 ∷ row_29 ∷ row_30 ∷ row_31 ∷ row_32 ∷ row_33 ∷ row_34 ∷ row_35 ∷
    row_36 ∷ row_37 ∷ row_38 ∷ row_39 ∷ row_40 ∷ row_41 ∷ row_42 ∷ row_43 ∷ row_44 ∷ row_45 ∷ row_46 ∷ row_47 ∷ row_48 ∷ row_49 ∷ row_50 ∷ row_51 ∷ row_52 ∷
    row_53 ∷ row_54 ∷ row_55 ∷ row_56 ∷ row_57 ∷ row_58 ∷ row_59 ∷ row_60 ∷ row_61 ∷ row_62 ∷ row_63 ∷ row_64 ∷ row_65 ∷ row_66 ∷ row_67 ∷ row_68 ∷ row_69 ∷
    row_70 ∷ row_71 ∷ row_72 ∷ row_73 ∷ row_74 ∷ row_75 ∷ row_76 ∷ row_77 ∷ row_78 ∷ row_79 ∷ row_80 ∷ row_81 ∷ row_82 ∷ row_83 ∷ row_84 ∷ row_85 ∷ row_86 ∷
    row_87 ∷ row_88 ∷ row_89 ∷ row_90 ∷ row_91 ∷ row_92 ∷ row_93 ∷ row_94 ∷ row_95 ∷ row_96 ∷ row_97 ∷ row_98 ∷ row_99 ∷ row_100 ∷ row_101 ∷ row_102 ∷ row_103 ∷
    row_104 ∷ row_105 ∷ row_106 ∷ row_107 ∷ row_108 ∷ row_109 ∷ row_110 ∷ [] ∷ row_112 ∷ row_113 ∷ row_114 ∷ row_115 ∷ row_116 ∷ row_117 ∷ row_118 ∷ row_119 ∷
    row_120 ∷ [] ∷ row_122 ∷ row_123 ∷ [] ∷ row_125 ∷ row_126 ∷ row_127 ∷ row_128 ∷ row_129 ∷ []

-- `unfolding line_entries` lets `refl` compute them
unfoldable pub line_entries : Unit {0}
unfolding m0 m1 m2 m3 m4 m5 m6 m7 m8 m9 m10 m11 m12 m13 m14 m15 m16 m17 m18 m19 m20 m21 m22 m23 m24 m25 m26 row_2 row_3 row_4 row_5 row_6 row_7 row_8 row_9
    row_10 row_11 row_12 row_13 row_14 row_15 row_16 row_17 row_18 row_19 row_20 row_21 row_22 row_23 row_24 row_25 row_26 row_27 row_28 row_29 row_30 row_31
    row_32 row_33 row_34 row_35 row_36 row_37 row_38 row_39 row_40 row_41 row_42 row_43 row_44 row_45 row_46 row_47 row_48 row_49 row_50 row_51 row_52 row_53
    row_54 row_55 row_56 row_57 row_58 row_59 row_60 row_61 row_62 row_63 row_64 row_65 row_66 row_67 row_68 row_69 row_70 row_71 row_72 row_73 row_74 row_75
    row_76 row_77 row_78 row_79 row_80 row_81 row_82 row_83 row_84 row_85 row_86 row_87 row_88 row_89 row_90 row_91 row_92 row_93 row_94 row_95 row_96 row_97
    row_98 row_99 row_100 row_101 row_102 row_103 row_104 row_105 row_106 row_107 row_108 row_109 row_110 row_112 row_113 row_114 row_115 row_116 row_117
    row_118 row_119 row_120 row_122 row_123 row_125 row_126 row_127 row_128 row_129 entries
line_entries = tt
