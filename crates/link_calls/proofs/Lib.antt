mod BornDarts
