mod ByteSets
