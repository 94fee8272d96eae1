use Rattle.normal_listing.proofs.VertexWords as vertices
use Rattle.normal_listing.proofs.laws.words_of_vertices.Goals as goal

pub returns : goal.returns
returns c = record { law = vertices.words_of_vertices }
