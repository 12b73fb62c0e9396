-- Rules that name only variables known where they name them, and in which few enough rows bind within one another.
use Rattle.std.specs.Prelude.{Bool, true, ◌&&◌, List, []}
use Rattle.std.specs.List.{list_all}
use Rattle.rules.specs.declared.known.Sort.TheVariants as sort
use Rattle.rules.specs.Trees.{Term, constant, time_of, value_of, number_of, reckon, Test, always, not_t, join, compare, Property, not_p, connect, occurrence, absence, scope, quantify}
use Rattle.rules.specs.Wanted.{Sorts, known_as, room_in, ◌⊕◌}

abbrev pub scoped_term : Sorts → Term → Bool
scoped_term η (constant k) = true
scoped_term η (time_of a) = known_as sort.Event η a
scoped_term η (value_of a b) = known_as sort.Event η a
scoped_term η (number_of a) = known_as sort.Number η a
scoped_term η (reckon o t u) = scoped_term η t && scoped_term η u

abbrev pub scoped_test : Sorts → Test → Bool
scoped_test η always = true
scoped_test η (not_t t) = scoped_test η t
scoped_test η (join j t u) = scoped_test η t && scoped_test η u
scoped_test η (compare s t u) = scoped_term η t && scoped_term η u

abbrev pub scoped : Sorts → Property → Bool
scoped η (not_p p) = scoped η p
scoped η (connect c p q) = scoped η p && scoped η q
scoped η (occurrence a n t) = room_in η && scoped_test (η ⊕ sort.Event) t
scoped η (absence a t) = room_in η && scoped_test (η ⊕ sort.Event) t
scoped η (scope s o a d t p) = room_in η && (scoped_test (η ⊕ sort.Event) t && scoped (η ⊕ sort.Event) p)
scoped η (quantify q a b p) = (known_as sort.Event η a && room_in η) && scoped (η ⊕ sort.Number) p

abbrev pub all_scoped : List Property → Bool
all_scoped ps = list_all (scoped []) ps
