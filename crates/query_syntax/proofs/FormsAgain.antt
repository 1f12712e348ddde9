-- The tokens of a form are read as that form.
use Rattle.std.proofs.Common.{◌≡◌, ℕ, true, false, List, [], ◌∷◌, ◌++◌, map, Option, Some, None, option_map, Ok, refl, ap, ◌∙◌, append_assoc}
use Rattle.std.proofs.lemmas.Bool.{false≢true, and_parts}
use Rattle.query_syntax.specs.declared.token.Fixed.TheVariants as fixed
use Rattle.query_syntax.specs.declared.token.Token.{Token}
use Rattle.query_syntax.specs.declared.token.Token.TheVariants as token
use Rattle.query_syntax.specs.declared.token.Placed.{Placed}
use Rattle.query_syntax.specs.declared.syntax.Named.{Named}
use Rattle.query_syntax.specs.declared.syntax.Given.{Given}
use Rattle.query_syntax.specs.declared.syntax.Setting.{Setting}
use Rattle.query_syntax.specs.declared.syntax.Test.{Test}
use Rattle.query_syntax.specs.declared.syntax.Qualified.{Qualified}
use Rattle.query_syntax.specs.declared.syntax.JoinTest.{JoinTest}
use Rattle.query_syntax.specs.declared.syntax.Joined.{Joined}
use Rattle.query_syntax.specs.declared.syntax.JoinSelect.{JoinSelect}
use Rattle.query_syntax.specs.declared.syntax.Form.{Form}
use Rattle.query_syntax.specs.declared.syntax.Form.TheVariants as form
use Rattle.query_syntax.specs.declared.syntax.Query.TheVariants as query
use Rattle.query_syntax.specs.Spelling.{limit_tokens}
use Rattle.query_syntax.specs.Grammar.{begins, rest_of, fixed_at, name_at, value_at, setting_at, names_at, values_at, select_at, qualified_at, join_at, insert_at, update_at, delete_at, form_at, begins_join, query_at, parsed}
use Rattle.query_syntax.specs.Forms.{tokens_in, named_tokens, given_tokens, setting_tokens, behind_separators, separated, where_tokens, order_by_tokens, qualified_tokens, joined_tokens, join_where_tokens, join_order_tokens, form_tokens, join_tokens, has_items, may_limit, is_grammatical, bare_name, bare_value, bare_setting, bare_test, bare_qualified, bare_joined, bare_join_test, bare_join, bare, FormsAreReadAgain}
use Rattle.query_syntax.proofs.ReadForms.{fixed_read, starts, begins_as, rest_as, name_read, items_read, names, givens, settings, qualifieds, joined_read, where_read, order_read, join_where_read, join_order_read, limit_read}

-- forms

record ReadAs (text : List Placed) (f : Form) (after : List Token) : Type 0 where
  it : Form
  rest : List Placed
  is : form_at text ≡ Ok (it, rest)
  same : bare it ≡ bare f
  left : tokens_in rest ≡ after

-- the end
abbrev end : List Token
end = token.Fixed fixed.End ∷ []

limit_ends : (limit : Option ℕ) → (starts fixed.Order (limit_tokens limit ++ end) ≡ false) × (starts fixed.Where (limit_tokens limit ++ end) ≡ false) × (starts fixed.And (limit_tokens limit ++ end) ≡ false)
limit_ends None = (refl, refl, refl)
limit_ends (Some n) = (refl, refl, refl)

order_ends : (order : Option Named) (limit : Option ℕ) → (starts fixed.Where ((order_by_tokens order ++ limit_tokens limit) ++ end) ≡ false) × (starts fixed.And ((order_by_tokens order ++ limit_tokens limit) ++ end) ≡ false)
order_ends None limit = ((limit_ends limit).1, (limit_ends limit).2)
order_ends (Some w) limit = (refl, refl)

where_ends : (tests : List Test) → starts fixed.Comma (where_tokens tests ++ end) ≡ false
where_ends [] = refl
where_ends (t ∷ more) = refl

select_same : (cs ds : List Named) (t u : Named) (xs ys : List Test) (a b : Option Named) (m n : Option ℕ) → map bare_name cs ≡ map bare_name ds → bare_name t ≡ bare_name u → map bare_test xs ≡ map bare_test ys
    → option_map bare_name a ≡ option_map bare_name b → m ≡ n → bare (form.Select cs t xs a m) ≡ bare (form.Select ds u ys b n)
select_same cs ds t u xs ys a b m n h i j k l = rw (h, i, j, k, l) refl

select_read : (columns : List Named) (table : Named) (ts : List Test) (order : Option Named) (limit : Option ℕ) (text : List Placed) → has_items columns ≡ true → may_limit limit ≡ true
    → tokens_in text ≡ form_tokens (form.Select columns table ts order limit) ++ end → ReadAs text (form.Select columns table ts order limit) end
unfolding form_at select_at
select_read columns table ts order limit text some low e =
    let behind : List Token = order_by_tokens order ++ limit_tokens limit in
    let clauses : List Token = where_tokens ts ++ behind in
    let list : List Token = token.Fixed fixed.From ∷ token.Word table.name ∷ clauses in
    let whole : List Token = (separated fixed.Comma named_tokens columns ++ list) ++ end in
    let front : begins fixed.Select text ≡ true = begins_as fixed.Select text (token.Fixed fixed.Select ∷ whole) e in
    let inside : tokens_in (rest_of text) ≡ separated fixed.Comma named_tokens columns ++ (list ++ end) = rest_as text (token.Fixed fixed.Select) whole e ∙ append_assoc (separated fixed.Comma named_tokens columns) list end in
    let cs = items_read fixed.Comma name_at bare_name named_tokens names columns (rest_of text) (list ++ end) some refl inside in
    let from = fixed_read fixed.From cs.rest (token.Word table.name ∷ (clauses ++ end)) cs.left in
    let t = name_read table from.rest (clauses ++ end) from.left in
    let conditions = where_read ts t.rest (behind ++ end) (order_ends order limit).0 (order_ends order limit).1 (t.left ∙ append_assoc (where_tokens ts) behind end) in
    let by = order_read order conditions.rest (limit_tokens limit ++ end) (limit_ends limit).0 (conditions.left ∙ append_assoc (order_by_tokens order) (limit_tokens limit) end) in
    let most = limit_read limit by.rest end low refl by.left in
    record {
      it = form.Select cs.it t.it conditions.it by.it most.it;
      rest = most.rest;
      is = rw (front, cs.is, from.is, t.is, conditions.is, by.is, most.is) refl;
      same = select_same cs.it columns t.it table conditions.it ts by.it order most.it limit cs.same t.same conditions.same by.same most.same;
      left = most.left;
    }

insert_same : (t u : Named) (cs ds : List Named) (vs ws : List Given) (at at' : ℕ) → bare_name t ≡ bare_name u → map bare_name cs ≡ map bare_name ds → map bare_value vs ≡ map bare_value ws
    → bare (form.Insert t at cs vs) ≡ bare (form.Insert u at' ds ws)
insert_same t u cs ds vs ws at at' h i j = rw (h, i, j) refl

insert_chain : (ps p q r s t u v w x : List Placed) (a b c d e f : ℕ) (table : Named) (columns : List Named) (values : List Given)
    → fixed_at fixed.Into ps ≡ Ok (a, p) → name_at p ≡ Ok (table, q) → fixed_at fixed.Open q ≡ Ok (b, r) → names_at r ≡ Ok (columns, s) → fixed_at fixed.Close s ≡ Ok (c, t)
    → fixed_at fixed.Values t ≡ Ok (d, u) → fixed_at fixed.Open u ≡ Ok (e, v) → values_at v ≡ Ok (values, w) → fixed_at fixed.Close w ≡ Ok (f, x) → insert_at ps ≡ Ok (form.Insert table b columns values, x)
unfolding insert_at
insert_chain ps p q r s t u v w x a b c d e f table columns values h i j k l m n o z = rw (h, i, j, k, l, m, n, o, z) refl

insert_form : (text : List Placed) (it : Form) (rest : List Placed) → begins fixed.Select text ≡ false → begins fixed.Insert text ≡ true → insert_at (rest_of text) ≡ Ok (it, rest) → form_at text ≡ Ok (it, rest)
unfolding form_at
insert_form text it rest h i j = rw (h, i, j) refl

insert_read : (table : Named) (at : ℕ) (columns : List Named) (values : List Given) (text : List Placed) → has_items columns ≡ true → has_items values ≡ true
    → tokens_in text ≡ form_tokens (form.Insert table at columns values) ++ end → ReadAs text (form.Insert table at columns values) end
insert_read table at columns values text some any e =
    let last : List Token = token.Fixed fixed.Close ∷ [] in
    let given : List Token = separated fixed.Comma given_tokens values ++ last in
    let behind : List Token = token.Fixed fixed.Close ∷ token.Fixed fixed.Values ∷ token.Fixed fixed.Open ∷ given in
    let list : List Token = (separated fixed.Comma named_tokens columns ++ behind) ++ end in
    let whole : List Token = token.Fixed fixed.Into ∷ token.Word table.name ∷ token.Fixed fixed.Open ∷ list in
    let other : begins fixed.Select text ≡ false = begins_as fixed.Select text (token.Fixed fixed.Insert ∷ whole) e in
    let front : begins fixed.Insert text ≡ true = begins_as fixed.Insert text (token.Fixed fixed.Insert ∷ whole) e in
    let into = fixed_read fixed.Into (rest_of text) (token.Word table.name ∷ token.Fixed fixed.Open ∷ list) (rest_as text (token.Fixed fixed.Insert) whole e) in
    let t = name_read table into.rest (token.Fixed fixed.Open ∷ list) into.left in
    let start = fixed_read fixed.Open t.rest list t.left in
    let cs = items_read fixed.Comma name_at bare_name named_tokens names columns start.rest (behind ++ end) some refl (start.left ∙ append_assoc (separated fixed.Comma named_tokens columns) behind end) in
    let close = fixed_read fixed.Close cs.rest (token.Fixed fixed.Values ∷ token.Fixed fixed.Open ∷ (given ++ end)) cs.left in
    let said = fixed_read fixed.Values close.rest (token.Fixed fixed.Open ∷ (given ++ end)) close.left in
    let open' = fixed_read fixed.Open said.rest (given ++ end) said.left in
    let vs = items_read fixed.Comma value_at bare_value given_tokens givens values open'.rest (last ++ end) any refl (open'.left ∙ append_assoc (separated fixed.Comma given_tokens values) last end) in
    let closed = fixed_read fixed.Close vs.rest end vs.left in
    record {
      it = form.Insert t.it start.at cs.it vs.it;
      rest = closed.rest;
      is =
          insert_form text (form.Insert t.it start.at cs.it vs.it) closed.rest other front
          (insert_chain (rest_of text) into.rest t.rest start.rest cs.rest close.rest said.rest open'.rest vs.rest closed.rest into.at start.at close.at said.at open'.at closed.at t.it cs.it vs.it
          into.is t.is start.is cs.is close.is said.is open'.is vs.is closed.is);
      same = insert_same t.it table cs.it columns vs.it values start.at at t.same cs.same vs.same;
      left = closed.left;
    }

update_same : (t u : Named) (ss zs : List Setting) (xs ys : List Test) → bare_name t ≡ bare_name u → map bare_setting ss ≡ map bare_setting zs → map bare_test xs ≡ map bare_test ys
    → bare (form.Update t ss xs) ≡ bare (form.Update u zs ys)
update_same t u ss zs xs ys h i j = rw (h, i, j) refl

update_read : (table : Named) (ss : List Setting) (ts : List Test) (text : List Placed) → has_items ss ≡ true
    → tokens_in text ≡ form_tokens (form.Update table ss ts) ++ end → ReadAs text (form.Update table ss ts) end
unfolding form_at update_at
update_read table ss ts text some e =
    let list : List Token = (separated fixed.Comma setting_tokens ss ++ where_tokens ts) ++ end in
    let whole : List Token = token.Word table.name ∷ token.Fixed fixed.Set ∷ list in
    let first : begins fixed.Select text ≡ false = begins_as fixed.Select text (token.Fixed fixed.Update ∷ whole) e in
    let second : begins fixed.Insert text ≡ false = begins_as fixed.Insert text (token.Fixed fixed.Update ∷ whole) e in
    let front : begins fixed.Update text ≡ true = begins_as fixed.Update text (token.Fixed fixed.Update ∷ whole) e in
    let t = name_read table (rest_of text) (token.Fixed fixed.Set ∷ list) (rest_as text (token.Fixed fixed.Update) whole e) in
    let set = fixed_read fixed.Set t.rest list t.left in
    let found =
    items_read fixed.Comma setting_at bare_setting setting_tokens settings ss set.rest (where_tokens ts ++ end) some (where_ends ts)
    (set.left ∙ append_assoc (separated fixed.Comma setting_tokens ss) (where_tokens ts) end) in
    let conditions = where_read ts found.rest end refl refl found.left in
    record {
      it = form.Update t.it found.it conditions.it;
      rest = conditions.rest;
      is = rw (first, second, front, t.is, set.is, found.is, conditions.is) refl;
      same = update_same t.it table found.it ss conditions.it ts t.same found.same conditions.same;
      left = conditions.left;
    }

delete_same : (t u : Named) (xs ys : List Test) → bare_name t ≡ bare_name u → map bare_test xs ≡ map bare_test ys → bare (form.Delete t xs) ≡ bare (form.Delete u ys)
delete_same t u xs ys h i = rw (h, i) refl

delete_read : (table : Named) (ts : List Test) (text : List Placed) → tokens_in text ≡ form_tokens (form.Delete table ts) ++ end → ReadAs text (form.Delete table ts) end
unfolding form_at delete_at
delete_read table ts text e =
    let whole : List Token = token.Fixed fixed.From ∷ token.Word table.name ∷ (where_tokens ts ++ end) in
    let first : begins fixed.Select text ≡ false = begins_as fixed.Select text (token.Fixed fixed.Delete ∷ whole) e in
    let second : begins fixed.Insert text ≡ false = begins_as fixed.Insert text (token.Fixed fixed.Delete ∷ whole) e in
    let third : begins fixed.Update text ≡ false = begins_as fixed.Update text (token.Fixed fixed.Delete ∷ whole) e in
    let front : begins fixed.Delete text ≡ true = begins_as fixed.Delete text (token.Fixed fixed.Delete ∷ whole) e in
    let from = fixed_read fixed.From (rest_of text) (token.Word table.name ∷ (where_tokens ts ++ end)) (rest_as text (token.Fixed fixed.Delete) whole e) in
    let t = name_read table from.rest (where_tokens ts ++ end) from.left in
    let conditions = where_read ts t.rest end refl refl t.left in
    record {
      it = form.Delete t.it conditions.it;
      rest = conditions.rest;
      is = rw (first, second, third, front, from.is, t.is, conditions.is) refl;
      same = delete_same t.it table conditions.it ts t.same conditions.same;
      left = conditions.left;
    }

form_read : (f : Form) (text : List Placed) → is_grammatical f ≡ true → tokens_in text ≡ form_tokens f ++ end → ReadAs text f end
form_read (form.Select columns table ts order limit) text h e =
    let both = and_parts (has_items columns) (may_limit limit) h in
    select_read columns table ts order limit text both.0 both.1 e
form_read (form.Insert table at columns values) text h e =
    let both = and_parts (has_items columns) (has_items values) h in
    insert_read table at columns values text both.0 both.1 e
form_read (form.Update table ss ts) text h e = update_read table ss ts text h e
form_read (form.Delete table ts) text h e = delete_read table ts text e

-- a SELECT from two tables

join_order_ends : (order : Option Qualified) (limit : Option ℕ) → (starts fixed.Where ((join_order_tokens order ++ limit_tokens limit) ++ end) ≡ false) × (starts fixed.And ((join_order_tokens order ++ limit_tokens limit) ++ end) ≡ false)
join_order_ends None limit = ((limit_ends limit).1, (limit_ends limit).2)
join_order_ends (Some q) limit = (refl, refl)

join_same : (cs ds : List Qualified) (t u : Joined) (xs ys : List JoinTest) (a b : Option Qualified) (m n : Option ℕ) → map bare_qualified cs ≡ map bare_qualified ds → bare_joined t ≡ bare_joined u → map bare_join_test xs ≡ map bare_join_test ys
    → option_map bare_qualified a ≡ option_map bare_qualified b → m ≡ n
    → bare_join (record { columns = cs; joined = t; tests = xs; order = a; limit = m }) ≡ bare_join (record { columns = ds; joined = u; tests = ys; order = b; limit = n })
join_same cs ds t u xs ys a b m n h i j k l = rw (h, i, j, k, l) refl

-- a `.` stands behind the first word
some_dot : (columns : List Qualified) (rest : List Token) (ps : List Placed) → has_items columns ≡ true → tokens_in ps ≡ separated fixed.Comma qualified_tokens columns ++ rest → begins fixed.Dot (rest_of ps) ≡ true
some_dot [] rest ps some e = absurd (false≢true some)
some_dot (c ∷ more) rest ps some e =
    let behind : List Token = (token.Fixed fixed.Dot ∷ token.Word c.column.name ∷ behind_separators fixed.Comma qualified_tokens more) ++ rest in
    begins_as fixed.Dot (rest_of ps) behind (rest_as ps (token.Word c.table.name) behind e)

record ReadJoin (text : List Placed) (j : JoinSelect) (after : List Token) : Type 0 where
  it : JoinSelect
  rest : List Placed
  is : query_at text ≡ Ok (query.Two it, rest)
  same : bare_join it ≡ bare_join j
  left : tokens_in rest ≡ after

join_read : (j : JoinSelect) (text : List Placed) → has_items j.columns ≡ true → may_limit j.limit ≡ true → tokens_in text ≡ join_tokens j ++ end → ReadJoin text j end
unfolding join_at
join_read j text some low e =
    let columns : List Qualified = j.columns in
    let joined : Joined = j.joined in
    let ts : List JoinTest = j.tests in
    let order : Option Qualified = j.order in
    let limit : Option ℕ = j.limit in
    let behind : List Token = join_order_tokens order ++ limit_tokens limit in
    let clauses : List Token = join_where_tokens ts ++ behind in
    let list : List Token = joined_tokens joined ++ clauses in
    let whole : List Token = (separated fixed.Comma qualified_tokens columns ++ list) ++ end in
    let front : begins fixed.Select text ≡ true = begins_as fixed.Select text (token.Fixed fixed.Select ∷ whole) e in
    let inside : tokens_in (rest_of text) ≡ separated fixed.Comma qualified_tokens columns ++ (list ++ end) = rest_as text (token.Fixed fixed.Select) whole e ∙ append_assoc (separated fixed.Comma qualified_tokens columns) list end in
    let dot : begins fixed.Dot (rest_of (rest_of text)) ≡ true = some_dot columns (list ++ end) (rest_of text) some inside in
    let cs = items_read fixed.Comma qualified_at bare_qualified qualified_tokens qualifieds columns (rest_of text) (list ++ end) some refl inside in
    let tables = joined_read joined cs.rest (clauses ++ end) (cs.left ∙ append_assoc (joined_tokens joined) clauses end) in
    let conditions = join_where_read ts tables.rest (behind ++ end) (join_order_ends order limit).0 (join_order_ends order limit).1 (tables.left ∙ append_assoc (join_where_tokens ts) behind end) in
    let by = join_order_read order conditions.rest (limit_tokens limit ++ end) (limit_ends limit).0 (conditions.left ∙ append_assoc (join_order_tokens order) (limit_tokens limit) end) in
    let most = limit_read limit by.rest end low refl by.left in
    record {
      it = record { columns = cs.it; joined = tables.it; tests = conditions.it; order = by.it; limit = most.it };
      rest = most.rest;
      is = rw (front, dot, cs.is, tables.is, conditions.is, by.is, most.is) refl;
      same = join_same cs.it columns tables.it joined conditions.it ts by.it order most.it limit cs.same tables.same conditions.same by.same most.same;
      left = most.left;
    }

-- no `.` stands behind the first word
no_dot : (columns : List Named) (rest : List Token) (ps : List Placed) → has_items columns ≡ true → starts fixed.Dot rest ≡ false → tokens_in ps ≡ separated fixed.Comma named_tokens columns ++ rest → begins fixed.Dot (rest_of ps) ≡ false
no_dot [] rest ps some other e = absurd (false≢true some)
no_dot (c ∷ []) rest ps some other e = begins_as fixed.Dot (rest_of ps) rest (rest_as ps (token.Word c.name) rest e) ∙ other
no_dot (c ∷ d ∷ more) rest ps some other e =
    let behind : List Token = behind_separators fixed.Comma named_tokens (d ∷ more) ++ rest in
    begins_as fixed.Dot (rest_of ps) behind (rest_as ps (token.Word c.name) behind e)

-- a statement at one table begins no join
no_join : (f : Form) (text : List Placed) → is_grammatical f ≡ true → tokens_in text ≡ form_tokens f ++ end → begins_join text ≡ false
no_join (form.Select columns table ts order limit) text h e =
    let list : List Token = token.Fixed fixed.From ∷ token.Word table.name ∷ (where_tokens ts ++ (order_by_tokens order ++ limit_tokens limit)) in
    let whole : List Token = (separated fixed.Comma named_tokens columns ++ list) ++ end in
    let front : begins fixed.Select text ≡ true = begins_as fixed.Select text (token.Fixed fixed.Select ∷ whole) e in
    let inside : tokens_in (rest_of text) ≡ separated fixed.Comma named_tokens columns ++ (list ++ end) = rest_as text (token.Fixed fixed.Select) whole e ∙ append_assoc (separated fixed.Comma named_tokens columns) list end in
    rw front (no_dot columns (list ++ end) (rest_of text) (and_parts (has_items columns) (may_limit limit) h).0 refl inside)
no_join (form.Insert table at columns values) text h e = rw (begins_as fixed.Select text (form_tokens (form.Insert table at columns values) ++ end) e) refl
no_join (form.Update table ss ts) text h e = rw (begins_as fixed.Select text (form_tokens (form.Update table ss ts) ++ end) e) refl
no_join (form.Delete table ts) text h e = rw (begins_as fixed.Select text (form_tokens (form.Delete table ts) ++ end) e) refl

pub forms_again : FormsAreReadAgain
unfolding parsed
forms_again (query.One f) h text e =
    let form' = form_read f text h e in
    let last = fixed_read fixed.End form'.rest [] form'.left in
    rw (no_join f text h e, form'.is, last.is) (ap (λ (g : Form). Ok (query.One g)) form'.same)
forms_again (query.Two j) h text e =
    let both = and_parts (has_items j.columns) (may_limit j.limit) h in
    let join' = join_read j text both.0 both.1 e in
    let last = fixed_read fixed.End join'.rest [] join'.left in
    rw (join'.is, last.is) (ap (λ (g : JoinSelect). Ok (query.Two g)) join'.same)
